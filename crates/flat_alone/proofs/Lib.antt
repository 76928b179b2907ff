pub mod Free
pub mod ImportFree
pub mod PagesFree
pub mod Alone
