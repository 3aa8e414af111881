-- In reading order.
pub mod NodeReads
pub mod Inheritance
pub mod OpenFields
pub mod ArgReads
pub mod DirtyRounds
pub mod AnswerTable
