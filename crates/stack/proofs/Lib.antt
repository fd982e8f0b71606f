-- The laws that the proofs of lines 9 to 15 share.
pub mod Points
pub mod Pressure
pub mod Products
pub mod Roots
pub mod Passes
pub mod Cases
pub mod Together
pub mod Taken
