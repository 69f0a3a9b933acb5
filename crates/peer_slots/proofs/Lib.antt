pub mod Slots
pub mod Linked
pub mod Queued
pub mod Parted
pub mod Opens
