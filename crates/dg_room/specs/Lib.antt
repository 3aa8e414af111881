-- In reading order: each module uses only the ones before it.
pub mod Names
pub mod Made
pub mod Tells
pub mod Worked
