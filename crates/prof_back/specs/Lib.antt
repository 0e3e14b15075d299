pub mod Equal
pub mod Gathered
pub mod Made
pub mod Texts
pub mod Writable
