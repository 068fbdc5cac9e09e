pub mod Named
pub mod Faces
pub mod Fronts
