pub mod Naming
mod Keeping
