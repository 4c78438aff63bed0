pub mod Boards
pub mod Standing
pub mod Rules
pub mod Histories
pub mod Listings
pub mod Scripts
