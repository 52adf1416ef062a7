pub mod ActualNumbers
pub mod Steps
pub mod FeatureLemmas
pub mod FeatureNumbers
pub mod CallSteps
pub mod Numbers
pub mod ExpressionSteps
