pub mod Behind
pub mod Steps
pub mod Walks
pub mod Counts
pub mod Dues
pub mod Loops
pub mod Packets
