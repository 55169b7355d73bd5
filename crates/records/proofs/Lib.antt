pub mod Facts
pub mod Lines
pub mod Plain
pub mod Readings
pub mod Results
pub mod Steps
pub mod Unique
