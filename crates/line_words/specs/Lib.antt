pub mod Number
pub mod Words
pub mod Mnemonics
pub mod Lines
