pub mod Views
pub mod Worked
pub mod Endings
