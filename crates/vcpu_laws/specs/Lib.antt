pub mod Images
pub mod Vcpus
