pub mod Ground
pub mod Setup
pub mod Facing
pub mod Words
pub mod Roster
pub mod Worked
