pub mod Sealed
pub mod Ordered
pub mod Laws
