-- In reading order: each module uses only the ones before it.
pub mod Counts
pub mod Revisions
pub mod Tickets
pub mod Links
pub mod Worked
