pub mod Cells
pub mod CellValues
pub mod Rules
pub mod Moments
pub mod Checks
pub mod Fits
pub mod Texts
