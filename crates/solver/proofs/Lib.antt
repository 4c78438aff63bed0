mod Narrowing
mod Parting
mod Forking
mod Seeking
mod Tallying
mod Gathering
pub mod Alikeness
pub mod Listed
pub mod Pegging
pub mod Handing
pub mod Enlisting
