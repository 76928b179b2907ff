pub mod SeptWords
pub mod SeptTrees
pub mod SeptPages
pub mod MapTrees
