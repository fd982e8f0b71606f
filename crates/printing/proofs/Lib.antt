-- How long what is printed can be, and what is printed of a job without trouble.
pub mod Lengths
pub mod ClearJobs
