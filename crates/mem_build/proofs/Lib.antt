pub mod PageAdds
pub mod ExtendDecided
pub mod ExtendSteps
