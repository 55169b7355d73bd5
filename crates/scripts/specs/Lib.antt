pub mod Numbers
pub mod Parts
pub mod Stacks
pub mod Lines
