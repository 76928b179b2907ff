pub mod CallLines
pub mod Lines
pub mod Names
