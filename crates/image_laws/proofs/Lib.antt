pub mod Containers
pub mod IvBytes
pub mod Values
pub mod Covered
pub mod Arriving
