pub mod Networks
pub mod Closing
