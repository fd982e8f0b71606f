-- The characters of a run.
pub mod Sheets
pub mod Runs
