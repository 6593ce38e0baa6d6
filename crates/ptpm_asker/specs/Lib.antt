pub mod Question
pub mod Desk
pub mod Asker
pub mod Turns
pub mod Allowed
