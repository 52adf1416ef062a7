-- What the code holds, one definition for a function. No public contract speaks of these: what they come to is said in
-- the files beside this folder.
pub mod Blocks
pub mod Files
