pub mod Seen
pub mod SecureEpt
pub mod Steps
pub mod Maps
pub mod Laws
