pub mod FirstLibrary
pub mod Alike
pub mod Growing
pub mod Numbers
pub mod Hosts
pub mod Listing
