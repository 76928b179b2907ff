pub mod Telling
pub mod Tracing
