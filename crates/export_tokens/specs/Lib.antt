pub mod TokenTrees
pub mod TokenMeanings
