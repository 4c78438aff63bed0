pub mod Kept
pub mod Answered
