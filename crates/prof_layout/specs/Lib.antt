pub mod Numbers
pub mod Columns
pub mod Lists
pub mod Markers
pub mod Tables
pub mod Profile
pub mod Kept
