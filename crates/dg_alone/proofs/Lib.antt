-- In reading order: each module uses only the ones before it.
pub mod Working
pub mod Pins
pub mod Viewing
pub mod Questions
pub mod Ending
