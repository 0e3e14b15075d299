pub mod Adding
pub mod TextLists
pub mod ValuesRead
pub mod WholeCells
