pub mod Unlinked
pub mod Settings
pub mod Parts
pub mod Named
pub mod Jumps
pub mod Sources
pub mod Told
