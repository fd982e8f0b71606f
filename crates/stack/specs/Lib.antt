-- Lines 9 to 15 in the order of docs/RULES.md, and their ranges.
pub mod Stack
pub mod Promise
