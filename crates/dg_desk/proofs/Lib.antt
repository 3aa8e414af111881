pub mod Caching
pub mod Following
pub mod Playing
pub mod Coherence
pub mod Desks
pub mod Places
pub mod Tickets
pub mod Crosses
