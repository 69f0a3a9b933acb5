pub mod Limits
mod Plans
