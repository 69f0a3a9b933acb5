pub mod Lists
pub mod Bounds
pub mod Names
pub mod Drawing
pub mod Window
pub mod Sums
pub mod Counts
pub mod Sound
