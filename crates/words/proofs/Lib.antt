pub mod Bit
pub mod Inside
pub mod Made
pub mod Rising
