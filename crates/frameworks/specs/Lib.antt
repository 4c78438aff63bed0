pub mod Lines
pub mod Frameworks
pub mod Makers
pub mod Standing
