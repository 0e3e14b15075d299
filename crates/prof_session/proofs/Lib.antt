pub mod SoundLemmas
pub mod ChangeLemmas
pub mod KeptLemmas
pub mod LawLemmas
pub mod LayerLemmas
pub mod TreeLemmas
