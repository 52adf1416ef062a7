pub mod Places
pub mod Reading
pub mod Parses
pub mod Laws
