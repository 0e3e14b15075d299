pub mod Cutting
pub mod Locations
pub mod Shown
