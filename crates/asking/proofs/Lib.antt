-- The laws that the calls' proofs cite.
pub mod Outcomes
