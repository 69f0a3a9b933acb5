pub mod Filled
pub mod Marked
pub mod Told
pub mod Waiting
