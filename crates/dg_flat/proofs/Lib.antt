pub mod NodeSearch
pub mod ChangedNodes
