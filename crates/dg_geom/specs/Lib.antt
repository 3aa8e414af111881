-- In reading order: each module uses only the ones before it.
pub mod Fit
pub mod Vectors
pub mod Rotations
pub mod Composition
pub mod Worked
