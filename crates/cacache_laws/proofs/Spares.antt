pub mod PlantedFiles
pub mod Unused
