-- In reading order: each module uses only the ones before it.
pub mod Queues
pub mod Tallies
pub mod Names
pub mod Worked
