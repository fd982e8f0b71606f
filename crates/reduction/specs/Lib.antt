-- A run of a job reduced, and which run has a number.
pub mod Reducing
