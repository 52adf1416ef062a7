pub mod Comparing
pub mod Due
pub mod Ending
pub mod Recorded
pub mod Regions
pub mod Same
