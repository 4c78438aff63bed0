pub mod Sections
pub mod Reads
