mod Arguing
mod Applying
pub mod Reducing
mod Closing
mod Founding
mod Written
