pub mod Kept
pub mod Columns
