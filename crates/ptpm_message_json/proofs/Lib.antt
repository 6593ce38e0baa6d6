pub mod Tellable
pub mod Naming
