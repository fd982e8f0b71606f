-- The ranges of docs/RULES.md, one for each kind of reading, and the order of numbers that their checks go by.
pub mod Ranges
pub mod InOrder
