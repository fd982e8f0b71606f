-- The laws of the days.
pub mod Entries
