pub mod Names
pub mod Values
pub mod DataField
pub mod MessageJson
