pub mod Copied
pub mod Holding
