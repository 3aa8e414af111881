-- In reading order: each module uses only the ones before it. `Commands` alone speaks of `clap`, and no public
-- contract cites it.
pub mod Paths
pub mod Numbers
pub mod Grammar
pub mod Texts
pub mod Tasks
pub mod Ranges
pub mod Commands
