-- In reading order: each module uses only the ones before it.
pub mod Named
pub mod Draft
pub mod State
pub mod Properties
pub mod Scripts
pub mod Components
pub mod Objects
pub mod Targets
pub mod Instances
pub mod Subs
pub mod Children
pub mod Collections
pub mod Order
pub mod Loads
pub mod Worked
