-- The law of the table.
pub mod Lengths
