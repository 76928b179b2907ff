pub mod Pairs
pub mod Order
pub mod Sizes
pub mod Words
pub mod Sealing
pub mod Again
pub mod Fits
