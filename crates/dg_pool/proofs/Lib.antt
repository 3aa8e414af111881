pub mod Adding
pub mod Crosses
