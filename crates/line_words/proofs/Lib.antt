pub mod Pieces
pub mod NextWords
pub mod Printable
pub mod Texts
pub mod Names
pub mod Decimals
pub mod Runs
