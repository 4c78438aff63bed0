pub mod Names
pub mod Texts
pub mod Desk
pub mod Commands
pub mod Refusals
pub mod Sessions
