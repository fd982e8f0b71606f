-- The list of a run's findings, and what stands behind one of them.
pub mod Listing
pub mod Seeking
