pub mod StreamSums
pub mod StreamWords
pub mod StreamMeans
pub mod Counted
pub mod Unmade
pub mod AloneMeans
pub mod OpMeans
