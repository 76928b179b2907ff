pub mod Words
pub mod Items
pub mod Plain
pub mod Locks
pub mod Pages
pub mod Playing
pub mod Laws
