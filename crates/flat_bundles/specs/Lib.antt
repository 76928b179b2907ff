pub mod Bundles
pub mod Ended
pub mod Taken
pub mod Formed
pub mod Counters
