pub mod Tree
pub mod Outcome
pub mod Plan
pub mod Taken
pub mod Kept
