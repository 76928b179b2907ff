pub mod Openings
pub mod Sealing
pub mod Replaying
pub mod Looking
pub mod Lanes
pub mod Threaded
