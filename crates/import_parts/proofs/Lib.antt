pub mod InputMeans
pub mod WordPuts
