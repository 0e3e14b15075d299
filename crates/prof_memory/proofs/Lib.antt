pub mod LeftBytes
pub mod Shelves
pub mod KeptTexts
pub mod Answered
