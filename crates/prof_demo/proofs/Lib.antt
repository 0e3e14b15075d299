pub mod Below
pub mod Given
pub mod Rests
