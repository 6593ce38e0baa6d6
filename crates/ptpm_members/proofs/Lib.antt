pub mod Placing
pub mod Answered
pub mod Placed
pub mod LineLemmas
pub mod ParsingLemmas
pub mod IdNames
pub mod SetBack
