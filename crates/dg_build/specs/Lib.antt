-- In reading order: each module uses only the ones before it.
pub mod Firsts
pub mod Paths
pub mod Contents
pub mod Lines
pub mod Objects
pub mod Entries
pub mod Targets
pub mod Built
pub mod Worked
