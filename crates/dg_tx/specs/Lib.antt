-- In reading order.
pub mod Outcome
pub mod Ids
