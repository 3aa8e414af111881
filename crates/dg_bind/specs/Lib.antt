-- In reading order.
pub mod Bindings
pub mod Scope
pub mod Steps
pub mod Question
pub mod Outcome
pub mod Code
