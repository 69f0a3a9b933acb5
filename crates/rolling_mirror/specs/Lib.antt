pub mod Rolling
pub mod Kept
pub mod Snapshot
pub mod Moves
