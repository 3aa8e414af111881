-- In reading order: each module uses only the ones before it.
pub mod Passing
pub mod Results
pub mod Outside
pub mod OutsideDirty
pub mod Reading
pub mod Readers
pub mod ArcChanges
pub mod NodeEdits
pub mod ValueChanges
pub mod NodeChanges
pub mod NodesGone
pub mod NodesNew
pub mod StepsGrow
pub mod ConnectRules
pub mod StepRules
pub mod TransactRules
