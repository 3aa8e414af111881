pub mod NameMaps
pub mod NameCopies
