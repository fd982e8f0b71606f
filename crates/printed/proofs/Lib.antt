-- The laws that the proofs here and those of the calls for a finding share.
pub mod Printing
