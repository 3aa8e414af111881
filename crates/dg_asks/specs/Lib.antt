-- In reading order: each module uses only the ones before it.
pub mod Asks
pub mod Told
