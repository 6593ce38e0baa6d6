pub mod Carried
pub mod Told
