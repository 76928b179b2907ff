pub mod Playing
pub mod Paging
pub mod Stored
pub mod TakenBack
pub mod Paged
