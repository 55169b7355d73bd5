pub mod Paths
pub mod Agreement
pub mod Facts
pub mod Effects
pub mod Follow
