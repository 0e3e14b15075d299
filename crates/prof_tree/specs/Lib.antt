pub mod Nodes
pub mod Trees
pub mod Forest
pub mod Ranks
pub mod Growing
pub mod Building
