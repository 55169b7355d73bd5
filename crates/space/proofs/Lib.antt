pub mod Steps
pub mod Layers
