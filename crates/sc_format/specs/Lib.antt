pub mod Elements
pub mod Formatted
pub mod Gaps
pub mod Internal
pub mod Layout
