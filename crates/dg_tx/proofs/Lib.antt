-- In reading order: each module uses only the ones before it.
pub mod IdRows
pub mod NewIds
pub mod UnreadNodes
pub mod NamedNodes
pub mod ConnectedArcs
pub mod AppliedSteps
