pub mod Begun
pub mod MoreItems
pub mod OtherNames
pub mod SampleMembers
pub mod SharedSlots
pub mod TableSlots
pub mod WholeLists
