pub mod Names
pub mod Pictures
pub mod Drawings
