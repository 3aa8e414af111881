pub mod Digits
pub mod Rounding
pub mod Grammar
pub mod Trimmed
pub mod ReadBack
