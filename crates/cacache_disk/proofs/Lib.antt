pub mod Below
pub mod Changes
pub mod FoundNodes
pub mod KeptFolders
pub mod Maps
pub mod Outcomes
pub mod PlantedNodes
pub mod PutNodes
pub mod Roots
pub mod Standing
pub mod PathTexts
mod Logs
mod ForeignLogs
