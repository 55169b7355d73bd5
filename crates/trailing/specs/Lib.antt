pub mod Trailed
pub mod Holding
