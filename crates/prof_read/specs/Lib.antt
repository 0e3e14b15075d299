pub mod Raw
pub mod Bases
pub mod Built
pub mod Texts
pub mod Causes
pub mod Refusals
