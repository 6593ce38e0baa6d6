pub mod SerialLaws
pub mod KeptMessageLaws
pub mod Identities
pub mod Fitting
pub mod Slots
pub mod SentLaws
pub mod LendingLaws
pub mod InOrderLaws
