pub mod Statuses
pub mod Errands
pub mod Answers
pub mod Readings
pub mod Serving
