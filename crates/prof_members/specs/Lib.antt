pub mod Ranges
pub mod Gathered
pub mod Columns
pub mod Names
pub mod SampleNames
pub mod Named
