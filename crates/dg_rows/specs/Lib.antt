-- In reading order: each module uses only the ones before it.
pub mod Rows
pub mod Fit
pub mod Read
