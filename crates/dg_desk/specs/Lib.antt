-- In reading order: each module uses only the ones before it.
pub mod Machine
pub mod Coherent
pub mod Desks
pub mod Acts
pub mod Places
pub mod Worked
