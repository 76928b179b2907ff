pub mod Opened
pub mod Arrivals
pub mod Laws
