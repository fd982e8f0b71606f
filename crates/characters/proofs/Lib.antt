-- The laws of texts, which the writers' proofs share.
pub mod Decimals
pub mod Texts
