-- The laws that the calls' proofs share.
pub mod Counting
