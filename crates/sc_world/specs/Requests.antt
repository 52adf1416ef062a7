-- The requests that handlers serve, as the frames of their stores and as the core count them.
pub mod Serving
pub mod Turns
pub mod Settlements
pub mod Links
pub mod Props
