pub mod Payloads
pub mod Asked
