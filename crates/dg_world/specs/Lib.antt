-- In reading order: each module uses only the ones before it.
pub mod Worlds
pub mod Steps
pub mod Laws
