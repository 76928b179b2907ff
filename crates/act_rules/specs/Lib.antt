pub mod Stores
pub mod Acts
pub mod CallLocks
pub mod GuestLocks
pub mod GuestActs
