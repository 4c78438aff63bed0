pub mod Extensions
pub mod StableModels
pub mod WellFounded
pub mod Sheets
