pub mod SameLemmas
pub mod RuleLemmas
pub mod MarkerLemmas
pub mod ReadingLemmas
pub mod Examples
