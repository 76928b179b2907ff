pub mod Streams
pub mod Rooms
pub mod AloneTrees
