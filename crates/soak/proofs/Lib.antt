pub mod Arriving
pub mod Feeding
pub mod Soaked
pub mod Played
pub mod Agreed
pub mod Whole
