-- What the two stacks are.
pub mod History
