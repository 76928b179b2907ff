pub mod StateTrees
pub mod StateShows
pub mod StateMeanings
pub mod VpStateTrees
pub mod VpStateMeanings
pub mod TdStateTrees
pub mod TdStateMeanings
