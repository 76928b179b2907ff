pub mod Runner
pub mod Kept
