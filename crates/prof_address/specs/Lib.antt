pub mod Transforms
pub mod Views
pub mod Parts
pub mod Readings
