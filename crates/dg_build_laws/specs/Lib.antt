-- In reading order: each module uses only the ones before it.
pub mod Laws
pub mod Worked
