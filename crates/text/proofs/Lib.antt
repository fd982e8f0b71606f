-- How long the text of a run can be.
pub mod Lengths
