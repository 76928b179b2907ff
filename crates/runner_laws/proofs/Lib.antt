pub mod Moves
pub mod Commits
pub mod Unstarted
pub mod Runner
pub mod Two
