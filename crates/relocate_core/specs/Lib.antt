pub mod RelocateTrees
pub mod RelocateShows
pub mod RelocateMeanings
