pub mod Tables
pub mod Threads
pub mod Named
pub mod Libs
pub mod Processes
