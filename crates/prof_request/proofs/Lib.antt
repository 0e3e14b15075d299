pub mod ByteLemmas
pub mod NameLemmas
pub mod RestLemmas
pub mod SpacedLemmas
pub mod CommandLemmas
pub mod LineLemmas
pub mod OutcomeLemmas
pub mod Examples
