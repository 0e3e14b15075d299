pub mod Places
pub mod Placed
pub mod RowCells
pub mod Fields
pub mod Gathered
pub mod Named
