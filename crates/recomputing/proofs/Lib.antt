pub mod Stepping
pub mod Marking
pub mod Turning
pub mod Pruning
