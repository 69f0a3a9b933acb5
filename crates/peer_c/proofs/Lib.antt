pub mod AsBox
pub mod Plans
