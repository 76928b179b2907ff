pub mod Ending
pub mod Tries
pub mod Calls
pub mod NoBundles
pub mod PageRooms
pub mod Refusals
pub mod Inputs
