pub mod Tables
pub mod Stays
pub mod Threads
pub mod Parts
pub mod Named
pub mod Ranged
