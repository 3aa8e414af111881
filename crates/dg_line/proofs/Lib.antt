pub mod Splitting
pub mod Raising
pub mod Linking
