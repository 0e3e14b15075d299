pub mod Language
pub mod Numbers
pub mod Utf8
pub mod Spelled
pub mod Strings
pub mod Sound
pub mod Complete
pub mod Begins
pub mod Depth
pub mod Further
pub mod Ended
pub mod Unique
pub mod Flat
pub mod OneEnding
pub mod Feeding
pub mod Texts
mod Derivations
