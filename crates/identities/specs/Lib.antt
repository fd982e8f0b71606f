-- The identities of a job file.
pub mod Identities
