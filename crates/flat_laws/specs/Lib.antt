pub mod Owners
pub mod Usable
pub mod Accesses
pub mod Unreached
pub mod Relocated
pub mod Worked
