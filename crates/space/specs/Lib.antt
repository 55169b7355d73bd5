pub mod Meaning
pub mod Laws
pub mod Calls
pub mod Layers
pub mod Facts
pub mod Texts
