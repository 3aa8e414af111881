-- In reading order: each module uses only the ones before it.
pub mod Entries
pub mod Caches
pub mod Layout
