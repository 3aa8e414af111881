-- In reading order: each module uses only the ones before it.
pub mod Orders
pub mod Listing
pub mod Keeping
pub mod Reading
pub mod Crosses
