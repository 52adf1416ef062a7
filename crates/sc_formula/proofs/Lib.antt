pub mod Division
pub mod Mapped
pub mod Plain
