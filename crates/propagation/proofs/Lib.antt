pub mod Closures
pub mod Sweeps
