-- In reading order: each module uses only the ones before it.
pub mod Pairs
pub mod Closure
pub mod Walked
pub mod Laws
