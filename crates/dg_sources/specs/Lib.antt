-- In reading order: each module uses only the ones before it.
pub mod Sorting
pub mod Readings
pub mod Project
