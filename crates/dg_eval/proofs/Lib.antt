-- In reading order: each module uses only the ones before it.
pub mod Places
pub mod Frames
pub mod Entries
pub mod Rounds
pub mod FirstLook
pub mod Measures
pub mod Counts
pub mod Offers
