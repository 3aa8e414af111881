pub mod Cuts
pub mod Vectors
pub mod FirstOnes
