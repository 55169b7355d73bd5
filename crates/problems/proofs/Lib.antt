pub mod Narrowing
pub mod Leaves
pub mod Laws
