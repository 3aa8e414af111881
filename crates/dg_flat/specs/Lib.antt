-- In reading order.
pub mod Code
pub mod Lookup
pub mod Bare
