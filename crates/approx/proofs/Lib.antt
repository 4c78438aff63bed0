pub mod Laws
pub mod Climbing
pub mod Rounding
pub mod Steadiness
pub mod Deciding
