pub mod Slots
pub mod Soaking
