pub mod JoiningLemmas
pub mod SourceLemmas
