pub mod CallerLemmas
pub mod Called
pub mod Versions
pub mod Marked
pub mod ImpureEffects
pub mod ImpureSearchSteps
pub mod Runners
pub mod EffectSteps
