pub mod Rows
pub mod Strays
pub mod Parts
pub mod Passing
