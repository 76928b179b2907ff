pub mod Four
