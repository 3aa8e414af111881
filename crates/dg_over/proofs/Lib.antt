-- In reading order: each module uses only the ones before it.
pub mod FirstMet
pub mod WalkRounds
pub mod Refusals
pub mod OverrideRounds
pub mod HeirRounds
