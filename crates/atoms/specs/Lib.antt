pub mod Sets
pub mod Order
pub mod Bounded
