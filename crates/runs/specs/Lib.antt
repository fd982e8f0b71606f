-- What comes of the call for one of a job's runs.
pub mod Outcomes
