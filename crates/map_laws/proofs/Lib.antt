pub mod Held
pub mod Follow
pub mod Leaves
pub mod Tracked
