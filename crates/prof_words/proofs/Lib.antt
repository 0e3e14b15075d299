pub mod Asked
pub mod Decimals
pub mod Each
pub mod Entering
mod Examples
pub mod Levels
pub mod Names
pub mod Refused
