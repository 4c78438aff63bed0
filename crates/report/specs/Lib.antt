pub mod Sheets
pub mod Lines
pub mod Answers
