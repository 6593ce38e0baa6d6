pub mod Standing
pub mod Parts
pub mod Inputs
pub mod Allowed
pub mod Permitted
