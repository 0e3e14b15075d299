pub mod Table
pub mod Bases
pub mod Refusals
pub mod Keepers
