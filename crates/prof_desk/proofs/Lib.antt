pub mod Held
pub mod Carrying
pub mod Scripts
pub mod Servings
pub mod Trials
pub mod TwoRequests
pub mod FirstReplies
