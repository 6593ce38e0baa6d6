pub mod New
pub mod WhenAsked
pub mod Steps
pub mod Judged
pub mod Said
pub mod RelayedTurns
