pub mod Party
pub mod Changes
pub mod Picture
pub mod Chosen
pub mod Drawing
pub mod MemberText
