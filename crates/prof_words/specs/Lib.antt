pub mod Commands
pub mod Desk
pub mod Files
pub mod Numbers
pub mod Reading
pub mod Words
