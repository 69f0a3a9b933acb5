pub mod Divergence
