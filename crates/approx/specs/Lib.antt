pub mod Laws
pub mod Meanings
pub mod Stability
pub mod Settling
