pub mod Texts
pub mod Shown
pub mod Standing
pub mod Going
pub mod Tables
mod Told
