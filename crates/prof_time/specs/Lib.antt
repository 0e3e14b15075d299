pub mod Numeral
pub mod Parts
pub mod Scaled
pub mod Spelling
pub mod TakenApart
