-- In reading order: each module uses only the ones before it.
pub mod Parts
pub mod Runs
pub mod Values
pub mod Script
