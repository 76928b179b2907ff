pub mod Words
pub mod Sealed
pub mod Pushing
pub mod Found
pub mod Inserting
pub mod Opening
