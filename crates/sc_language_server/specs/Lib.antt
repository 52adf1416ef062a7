pub mod Findings
pub mod Layouts
pub mod Messages
