pub mod Keys
pub mod Lines
pub mod Names
pub mod Numbers
pub mod Text
pub mod Words
