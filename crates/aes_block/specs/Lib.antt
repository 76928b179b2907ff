pub mod Aes
pub mod Planes
pub mod Circuit
pub mod Laws
