-- The laws that the proofs of the sheet share, and the starred values.
pub mod RunInRange
pub mod Together
pub mod Starred
