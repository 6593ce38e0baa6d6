pub mod Remainders
pub mod SealLaws
