pub mod Numbers
pub mod FileLists
pub mod Distinct
