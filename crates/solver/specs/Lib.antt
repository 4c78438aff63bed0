pub mod Ascents
pub mod Lists
pub mod Pegs
pub mod Search
pub mod Fronts
