pub mod KeptFaults
pub mod Calls
