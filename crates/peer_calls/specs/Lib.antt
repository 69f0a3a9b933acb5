pub mod State
pub mod Wire
pub mod Sending
pub mod Hearing
pub mod Issuing
pub mod Moving
pub mod Handing
