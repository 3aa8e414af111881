-- In reading order: each module uses only the ones before it.
pub mod Kinds
pub mod Values
pub mod Sum
pub mod Join
pub mod Files
pub mod Components
pub mod Objects
pub mod Go
pub mod Worked
