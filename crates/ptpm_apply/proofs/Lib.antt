pub mod Places
pub mod InTurn
pub mod Watches
