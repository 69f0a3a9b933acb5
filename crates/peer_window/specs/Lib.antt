pub mod Window
pub mod Session
