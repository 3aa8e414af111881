-- In reading order: each module uses only the ones before it.
pub mod Spots
pub mod Closing
