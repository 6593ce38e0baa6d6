pub mod Kinds
pub mod Roots
