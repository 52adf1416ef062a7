-- What the code reads at the front of a text, one definition for a function. No public contract speaks of these: which
-- texts spell which tokens is Spelling's to say, and the proofs show that what is read is what it says.
pub mod Lengths
pub mod Front
pub mod Answers
