pub mod Grips
pub mod LockWords
pub mod Reached
