pub mod Places
pub mod Edits
pub mod Heights
pub mod Firsts
pub mod Shape
pub mod Falls
pub mod Indexes
