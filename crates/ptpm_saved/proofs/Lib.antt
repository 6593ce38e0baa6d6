pub mod EntryOrder
pub mod ImageLemmas
pub mod RestoringLemmas
pub mod ReadingLemmas
pub mod BodyLemmas
pub mod SavingLaws
pub mod WrittenLemmas
pub mod BatchingLaws
