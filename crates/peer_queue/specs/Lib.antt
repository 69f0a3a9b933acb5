pub mod Room
pub mod Piece
