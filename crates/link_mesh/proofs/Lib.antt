pub mod Zips
pub mod Mesh
pub mod NewMesh
