pub mod EventText
pub mod Going
pub mod Scheduled
