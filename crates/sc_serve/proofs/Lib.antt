pub mod AllFaultLemmas
pub mod AnswerLemmas
pub mod ChanceLemmas
pub mod Headings
pub mod RefusalLemmas
mod RunReports
pub mod SearchLemmas
pub mod ServedLemmas
mod TargetLemmas
pub mod TestLemmas
