pub mod Apart
pub mod Unpacked
pub mod Placed
