pub mod DigestLemmas
pub mod LineLemmas
pub mod SavedLemmas
pub mod WritingLemmas
