-- Reading trees from tokens, each part with its place, as the parser does, and what its methods answer by that. The
-- laws in proofs/ say that it reads what the grammar spells, and that each part stands where its tokens do; no public
-- contract speaks of it.
pub mod Looks
pub mod Types
pub mod Expressions
pub mod Assertions
pub mod Instructions
pub mod Classes
pub mod Reads
pub mod Header
pub mod Sections
