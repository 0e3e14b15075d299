pub mod Known
pub mod Session
pub mod Machine
pub mod Memory
pub mod Play
