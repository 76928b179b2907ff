pub mod Traces
pub mod Laws
pub mod Worked
