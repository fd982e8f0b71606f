-- The steps of a figure.
pub mod Steps
