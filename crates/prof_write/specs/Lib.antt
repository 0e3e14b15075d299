pub mod Cells
pub mod Columns
pub mod Compact
pub mod Members
pub mod Written
