pub mod PageImportTrees
pub mod PageImportLoop
pub mod PageImportShows
pub mod PageImportWorlds
pub mod PageImportStages
pub mod PageImportEnds
pub mod PageImportMeanings
