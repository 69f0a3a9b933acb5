pub mod Packet
pub mod Reading
pub mod Seen
pub mod Putting
pub mod Snapshot
pub mod Slots
pub mod Fields
pub mod Filling
