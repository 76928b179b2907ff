pub mod BundleLines
