pub mod Common
pub mod DescribedLaws
mod FrameLemmas
pub mod Changing
pub mod Ending
pub mod Steps
pub mod WorldLemmas
pub mod Following
pub mod Telling
pub mod StartingLemmas
pub mod Taking
pub mod Playing
pub mod FaultLemmas
pub mod StartedWorld
pub mod ScriptLemmas
pub mod Reading
