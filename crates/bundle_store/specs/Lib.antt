pub mod Seen
pub mod Outside
pub mod History
pub mod Noted
pub mod Held
pub mod Listed
pub mod Containers
pub mod Laws
