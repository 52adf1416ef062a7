pub mod AskedLemmas
pub mod GivenLemmas
pub mod OptionLemmas
pub mod RootLemmas
pub mod Rows
pub mod SeedLemmas
