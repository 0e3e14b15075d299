pub mod Layers
pub mod Unasked
pub mod Turns
pub mod Plays
