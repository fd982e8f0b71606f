-- A finding explained.
pub mod Explaining
