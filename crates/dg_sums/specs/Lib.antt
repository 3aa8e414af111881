-- In reading order: each module uses only the ones before it.
pub mod Counts
pub mod Builds
pub mod Sums
pub mod Worked
