pub mod ArrayLemmas
pub mod CellLemmas
mod Examples
pub mod FuncLemmas
pub mod Loops
pub mod MarkerLemmas
pub mod MemberLemmas
pub mod RangeLemmas
pub mod StackLemmas
pub mod ThreadLemmas
