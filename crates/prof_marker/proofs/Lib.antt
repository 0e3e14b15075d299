pub mod LastPlaces
pub mod Names
pub mod Drafted
pub mod Keeping
pub mod Placed
pub mod Occurring
pub mod Passing
pub mod ByRows
