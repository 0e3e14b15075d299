pub mod Markers
pub mod ByRow
pub mod Found
pub mod Kept
pub mod Ties
pub mod Examples
