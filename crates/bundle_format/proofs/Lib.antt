pub mod Again
pub mod Digits
pub mod Faults
pub mod Spelled
