pub mod Texts
pub mod Words
pub mod Rows
pub mod Contents
pub mod Sheets
pub mod Refuses
