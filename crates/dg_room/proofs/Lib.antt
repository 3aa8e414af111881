pub mod Crosses
pub mod Making
pub mod Telling
