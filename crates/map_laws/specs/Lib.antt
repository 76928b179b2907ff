pub mod SeptMaps
pub mod Laws
pub mod Leaves
pub mod Epochs
