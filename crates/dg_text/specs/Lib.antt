-- In reading order. None uses another.
pub mod Decoded
pub mod Names
pub mod Quoted
pub mod LastMark
pub mod Paths
