-- The certificates of a job file together.
pub mod Entries
