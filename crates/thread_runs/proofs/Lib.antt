pub mod Lifting
pub mod Threads
