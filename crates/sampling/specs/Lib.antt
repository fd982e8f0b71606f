-- Lines 16 to 20 in the order of docs/RULES.md, and their ranges.
pub mod Sampling
pub mod Promise
