pub mod InputTrees
pub mod WordPuts
