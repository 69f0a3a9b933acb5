mod Cut
mod Puts
mod Slots
pub mod Walks
mod Kept
mod Sorting
pub mod Rising
mod Filled
mod Forgotten
