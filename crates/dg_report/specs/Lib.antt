-- In reading order: each module uses only the ones before it.
pub mod Parts
pub mod Text
pub mod Worked
