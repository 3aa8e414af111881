-- In reading order: each module uses only the ones before it.
pub mod Lists
pub mod Tellings
pub mod Growing
