pub mod Progress
pub mod Readings
pub mod Tabled
pub mod Prices
pub mod Starts
pub mod Files
