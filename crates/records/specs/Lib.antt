pub mod Words
pub mod Checks
pub mod Refusals
pub mod Kinds
pub mod Tables
pub mod Sums
