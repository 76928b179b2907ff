pub mod Made
pub mod Stores
