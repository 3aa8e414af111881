-- In reading order: each module uses only the ones before it.
pub mod PairOrder
pub mod PairKeys
pub mod Walking
pub mod Leasts
