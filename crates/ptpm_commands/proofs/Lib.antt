pub mod CellLemmas
pub mod TakenLemmas
pub mod Telling
