pub mod Relayed
pub mod Asking
pub mod Refusing
pub mod Saying
pub mod Changing
pub mod Decided
