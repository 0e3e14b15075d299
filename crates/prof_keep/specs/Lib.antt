pub mod Saved
pub mod Heads
pub mod Reading
