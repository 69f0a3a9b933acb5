pub mod Queue
pub mod Peer
pub mod Net
pub mod Due
pub mod Own
pub mod Marks
