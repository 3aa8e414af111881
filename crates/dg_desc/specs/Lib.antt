-- In reading order: each module uses only the ones before it.
pub mod Known
pub mod Words
pub mod Faults
pub mod Lookups
pub mod Descs
pub mod Trees
pub mod Canonical
pub mod Formatted
