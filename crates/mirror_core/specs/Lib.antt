pub mod Deferred
pub mod Drained
pub mod Epochs
pub mod Kept
pub mod Drafts
