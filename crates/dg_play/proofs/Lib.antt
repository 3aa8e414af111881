-- In reading order: each module uses only the ones before it.
pub mod Made
pub mod Works
pub mod Live
pub mod Changes
pub mod Turns
pub mod Asked
