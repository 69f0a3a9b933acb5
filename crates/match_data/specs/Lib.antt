pub mod Names
pub mod Data
