pub mod FirstUses
pub mod Libraries
pub mod Keys
pub mod Naming
pub mod Lists
