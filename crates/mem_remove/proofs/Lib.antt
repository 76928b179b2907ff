pub mod NamedDecided
pub mod TrackedDecided
pub mod TrackDecided
pub mod RemoveDecided
pub mod SeptSteps
pub mod Clear
