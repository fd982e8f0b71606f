-- The laws of a job, which the layers above cite.
pub mod ClearJobs
pub mod ClearRuns
pub mod Reach
pub mod WholeFile
pub mod ReadJobs
