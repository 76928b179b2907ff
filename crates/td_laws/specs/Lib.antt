pub mod Asked
pub mod Entries
pub mod Keys
pub mod Lives
pub mod Ops
pub mod Steps
