pub mod Sums
pub mod Steps
pub mod Files
