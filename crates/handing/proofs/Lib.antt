-- The laws that the proofs here and those of the calls share.
pub mod Handing
