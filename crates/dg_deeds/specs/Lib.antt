-- In reading order: each module uses only the ones before it.
pub mod Printed
pub mod Deeds
pub mod Worked
