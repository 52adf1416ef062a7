-- What the printer's code holds, and reading as a function, by which the laws of the grammar are proved. No public
-- contract mentions these: the rules are in the files beside this folder, and the proofs show that this is what they
-- say.
pub mod Printer
pub mod Reading
