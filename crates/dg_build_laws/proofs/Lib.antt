-- In reading order: each module uses only the ones before it.
pub mod Lists
pub mod Kept
pub mod Arguments
pub mod Productions
pub mod Values
pub mod Builds
pub mod Segments
pub mod Folders
pub mod Names
pub mod Differing
pub mod Counts
pub mod Files
pub mod OneObject
