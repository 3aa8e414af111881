-- In reading order: each module uses only the ones before it.
pub mod Words
pub mod Parts
pub mod Forms
pub mod Steps
pub mod Acts
pub mod Script
pub mod Reader
pub mod Laws
