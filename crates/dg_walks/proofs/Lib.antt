-- In reading order: each module uses only the ones before it.
pub mod OpenEnds
pub mod Unwinding
pub mod Growing
pub mod Hits
