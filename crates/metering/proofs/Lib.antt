-- The laws that the proofs of lines 1 to 8 share.
pub mod Points
pub mod Passes
pub mod Products
pub mod DryVolume
pub mod Cases
pub mod Taken
pub mod RunInRange
pub mod Together
