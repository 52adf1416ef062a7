-- What the reader of records keeps.
pub mod Parts
pub mod Steps
