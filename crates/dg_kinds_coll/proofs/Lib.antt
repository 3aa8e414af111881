pub mod Moving
pub mod Sets
