pub mod Causes
pub mod Firsts
pub mod Lines
pub mod Whole
