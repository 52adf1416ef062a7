pub mod FeatureNumbers
pub mod Judges
pub mod Marks
pub mod Views
