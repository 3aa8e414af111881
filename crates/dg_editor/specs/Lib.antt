-- In reading order: each module uses only the ones before it.
pub mod Changes
pub mod Machine
pub mod Fits
pub mod Seeing
pub mod Laws
