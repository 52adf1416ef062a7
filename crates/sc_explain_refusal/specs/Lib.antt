pub mod Mismatch
