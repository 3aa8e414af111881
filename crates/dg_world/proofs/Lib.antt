-- In reading order: each module uses only the ones before it.
pub mod Hits
pub mod Listed
pub mod Sources
pub mod Known
pub mod Keeping
pub mod Events
