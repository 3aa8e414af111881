pub mod EqualTexts
pub mod Replacing
