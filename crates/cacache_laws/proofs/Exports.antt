pub mod ExportEffects
pub mod Exported
pub mod Arriving
