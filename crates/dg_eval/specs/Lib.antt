-- In reading order: each module uses only the ones before it.
pub mod Results
pub mod Contexts
pub mod Frames
pub mod Worked
