pub mod KeptWord
pub mod Numbers
pub mod HandedOut
