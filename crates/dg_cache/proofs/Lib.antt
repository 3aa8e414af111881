pub mod Ends
pub mod Listing
pub mod Ordering
pub mod Pairs
pub mod ByUse
pub mod Laying
pub mod Crosses
