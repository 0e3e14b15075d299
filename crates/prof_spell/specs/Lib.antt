pub mod Spelling
pub mod Pieces
pub mod Chains
pub mod Utf8
pub mod Escapes
pub mod Readings
pub mod Sequences
