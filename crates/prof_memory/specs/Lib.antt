pub mod Memory
pub mod Plans
pub mod Halls
pub mod Keeping
