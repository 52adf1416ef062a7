pub mod Characters
pub mod Kind
pub mod Spelling
pub mod Reading
pub mod Words
