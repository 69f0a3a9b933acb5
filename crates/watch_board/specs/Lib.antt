pub mod Behaviour
pub mod Board
pub mod Told
pub mod Watchers
