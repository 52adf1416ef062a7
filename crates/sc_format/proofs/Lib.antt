pub mod Laying
pub mod Lines
pub mod OneList
pub mod Reading
pub mod Settled
pub mod Splits
pub mod Touching
pub mod Written
