pub mod Sound
pub mod Clash
pub mod Fits
pub mod Listed
pub mod Conflicts
pub mod Start
pub mod Kept
