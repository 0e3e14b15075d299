pub mod Nest
pub mod Position
pub mod Step
pub mod Skip
pub mod Parts
pub mod Gives
pub mod Tells
