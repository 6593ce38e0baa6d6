pub mod OctetLaws
pub mod RefusalLaws
pub mod ReadingLaws
pub mod CanonicalLaws
pub mod RewritingLaws
pub mod MessageLaws
