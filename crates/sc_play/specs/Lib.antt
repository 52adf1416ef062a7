pub mod Taking
pub mod Answering
pub mod Turns
pub mod Regions
pub mod Contents
