pub mod Making
pub mod AtOnce
pub mod ShortTurns
pub mod SharedTurns
