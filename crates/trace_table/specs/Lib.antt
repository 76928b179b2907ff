pub mod Merges
pub mod Views
pub mod Kept
pub mod Tells
pub mod Benches
pub mod Growing
