pub mod NameMaps
pub mod JoinedWords
pub mod LastPlaces
pub mod Overrides
pub mod LatestBinding
