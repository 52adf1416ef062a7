pub mod Laws
pub mod Sites
pub mod Views
pub mod Warnings
