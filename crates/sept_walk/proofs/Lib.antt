pub mod Ends
pub mod Meets
