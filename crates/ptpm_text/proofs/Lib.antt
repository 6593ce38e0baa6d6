pub mod NextLine
