pub mod Firsts
pub mod Trial
