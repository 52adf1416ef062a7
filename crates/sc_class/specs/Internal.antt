-- What the code holds, and how it searches for a fault, one definition for a function. No public contract mentions
-- these: the rules are in the files beside this folder, and the proofs show that what is found is what they say.
pub mod Found
pub mod Places
pub mod FaultAt
pub mod NameIndex
pub mod DeclaredNames
pub mod KnownFeatures
pub mod FoundFeatures
pub mod Lines
pub mod FeatureFaults
pub mod AncestorLists
pub mod Systems
pub mod NoFaults
pub mod ScopeSearch
pub mod Search
pub mod Listing
