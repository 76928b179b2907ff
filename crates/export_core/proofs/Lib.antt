pub mod OpenedDecided
pub mod SharedDecided
