-- What is printed of a job.
pub mod Jobs
