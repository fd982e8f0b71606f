-- The laws that the proofs of lines 16 to 20 share.
pub mod Products
pub mod Cases
pub mod Percent
pub mod Difference
pub mod Taken
pub mod RunInRange
pub mod Together
