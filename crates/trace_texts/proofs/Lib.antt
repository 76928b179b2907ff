pub mod Lists
pub mod Parts
mod Names
mod OfCalls
