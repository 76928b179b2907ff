pub mod Asked
pub mod Known
pub mod Puts
pub mod ImportSteps
