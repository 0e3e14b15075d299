pub mod Fronts
pub mod Writings
pub mod Handlings
pub mod Shorts
pub mod Lines
pub mod Servings
