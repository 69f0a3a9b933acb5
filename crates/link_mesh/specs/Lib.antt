pub mod Mesh
pub mod NewMesh
