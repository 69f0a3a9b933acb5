pub mod AsBox
pub mod Joining
pub mod Last
