pub mod Change
pub mod Lane
pub mod Resume
