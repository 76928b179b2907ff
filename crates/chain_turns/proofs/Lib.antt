mod Tasks
pub mod Modules
