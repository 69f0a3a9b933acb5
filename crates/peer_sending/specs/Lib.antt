pub mod Pieces
pub mod Filling
pub mod Supply
pub mod Sending
