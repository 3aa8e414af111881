-- In reading order: each module uses only the ones before it.
pub mod Draws
pub mod Paths
pub mod Files
pub mod Script
pub mod Project
pub mod Laws
