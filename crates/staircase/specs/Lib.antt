pub mod Stairs
pub mod Climbing
