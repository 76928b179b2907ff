pub mod SessionTrees
pub mod StreamStores
pub mod SessionShows
pub mod SessionParts
pub mod SessionMeanings
