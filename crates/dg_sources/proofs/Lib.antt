pub mod StableSorts
pub mod NextFiles
