pub mod Gathered
pub mod Inside
pub mod Columns
pub mod Fits
pub mod Converted
pub mod Checks
pub mod Processes
pub mod Work
