pub mod Places
pub mod EndPlaces
pub mod StepLaws
pub mod Pieces
pub mod Occurring
pub mod Known
pub mod MetTerms
pub mod Repeats
