-- In reading order: each module uses only the ones before it.
pub mod Pins
pub mod Play
pub mod Work
pub mod Sessions
pub mod Seen
pub mod States
pub mod Desk
pub mod Worked
