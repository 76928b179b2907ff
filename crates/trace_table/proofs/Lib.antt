pub mod Merging
pub mod Lists
pub mod Steps
pub mod Swaps
pub mod Openings
pub mod Seats
pub mod Ended
pub mod Alone
