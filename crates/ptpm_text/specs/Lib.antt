pub mod Lines
pub mod Words
pub mod OctetText
pub mod Numbers
pub mod RequestNames
pub mod Escaped
