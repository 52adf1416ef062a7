pub mod Needed
pub mod EntryLaws
pub mod WaitLaws
mod SameMarks
