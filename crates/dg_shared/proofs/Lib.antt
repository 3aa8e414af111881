pub mod Counting
pub mod Passes
pub mod Plays
pub mod Taking
pub mod Desks
