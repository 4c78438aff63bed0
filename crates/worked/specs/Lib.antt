pub mod Piles
pub mod Rows
pub mod Boards
