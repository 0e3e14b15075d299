pub mod Joined
pub mod Pages
