pub mod Ends
pub mod Summing
pub mod Keeping
pub mod Reached
pub mod Cutting
