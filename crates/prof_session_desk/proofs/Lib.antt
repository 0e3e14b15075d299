pub mod DeskLemmas
pub mod MakeLemmas
pub mod AnswerLemmas
pub mod DeskLaws
pub mod KnownLemmas
