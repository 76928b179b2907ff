pub mod WordSteps
pub mod PageSteps
pub mod Asked
