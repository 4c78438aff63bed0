pub mod Cuts
pub mod Figures
pub mod Finds
pub mod Laws
pub mod Kept
