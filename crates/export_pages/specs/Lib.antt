pub mod PageExportTrees
pub mod PageExportShows
pub mod PageExportWords
pub mod PageExportMeanings
pub mod PageExportStages
