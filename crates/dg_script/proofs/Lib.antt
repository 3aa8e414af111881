pub mod WordReading
pub mod Numbers
pub mod LineEnds
pub mod Blocks
pub mod QuotedEscapes
pub mod ReadBack
