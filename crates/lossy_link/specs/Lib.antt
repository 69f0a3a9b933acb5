pub mod Ends
pub mod Link
pub mod Carried
pub mod Links
pub mod Outcome
pub mod Net
pub mod Finish
pub mod Way
