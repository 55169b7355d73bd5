pub mod Tables
pub mod Costs
pub mod Files
