pub mod Views
pub mod Showing
pub mod Examples
pub mod Sums
pub mod Weighing
pub mod Sprouting
pub mod Climbing
pub mod Groups
