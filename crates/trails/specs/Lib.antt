pub mod Entries
pub mod Segments
