pub mod Turning
pub mod Agreement
pub mod Tracking
mod Acting
mod Playing
