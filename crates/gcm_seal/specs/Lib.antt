pub mod Gcm
pub mod Tables
pub mod Laws
