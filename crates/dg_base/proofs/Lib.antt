pub mod Weights
pub mod NameLists
