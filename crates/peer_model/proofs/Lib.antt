pub mod Pieces
pub mod Counting
pub mod Peers
pub mod Nets
pub mod Converging
pub mod Starting
pub mod Progress
pub mod Marking
