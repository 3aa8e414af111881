-- In reading order: each module uses only the ones before it.
pub mod Text
pub mod Halts
pub mod Project
pub mod Input
pub mod Format
pub mod Out
pub mod Seen
pub mod Statement
pub mod Worked
