-- The laws of a run reduced, which the layers above cite.
pub mod ClearJobs
pub mod Working
pub mod Naming
