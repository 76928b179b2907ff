pub mod Arrived
pub mod Given
