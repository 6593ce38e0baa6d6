pub mod Crc
pub mod Sealing
pub mod Places
pub mod NewestImage
