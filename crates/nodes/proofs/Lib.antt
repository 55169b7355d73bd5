pub mod Chosen
pub mod Counts
pub mod Emptiness
