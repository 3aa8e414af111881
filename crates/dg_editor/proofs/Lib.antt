-- In reading order: each module uses only the ones before it.
pub mod Passing
pub mod Rights
pub mod Returning
pub mod Edits
