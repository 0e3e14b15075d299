pub mod Outputs
pub mod Strings
