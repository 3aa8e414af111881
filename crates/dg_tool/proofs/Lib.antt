pub mod TextSizes
pub mod Pieces
pub mod LineCounts
pub mod Endings
pub mod Tellings
pub mod Outputs
pub mod Starts
