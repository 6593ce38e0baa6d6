pub mod Forest
pub mod Growing
pub mod Loops
pub mod Tree
pub mod Walks
