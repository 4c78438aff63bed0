pub mod Lines
pub mod Standings
pub mod Settling
pub mod Answering
pub mod Unique
