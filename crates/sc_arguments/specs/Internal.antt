-- What the code holds and looks for, one definition for each function. No public contract mentions these: the files
-- beside this folder have the rules, and the proofs show that the functions follow them.
pub mod SoleName
