-- In reading order: each module uses only the ones before it.
pub mod Kinds
pub mod Places
pub mod Entries
pub mod Instances
pub mod Collections
pub mod Defold
pub mod Worked
