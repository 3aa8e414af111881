pub mod EqualTexts
pub mod Firsts
pub mod Keys
pub mod Numbered
pub mod Kept
pub mod Wholes
pub mod Built
