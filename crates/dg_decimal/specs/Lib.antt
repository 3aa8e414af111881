pub mod Form
pub mod Value
pub mod Reading
pub mod Canonical
pub mod Arithmetic
