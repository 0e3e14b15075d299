pub mod Unused
pub mod NoHeads
pub mod Takings
pub mod Fields
pub mod OneRoute
pub mod Targets
pub mod Written
