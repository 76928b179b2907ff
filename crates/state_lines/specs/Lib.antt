pub mod After
pub mod Lines
pub mod StateText
pub mod WordText
pub mod LpRead
pub mod Laws
