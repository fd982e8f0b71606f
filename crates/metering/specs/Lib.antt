-- Lines 1 to 8 in the order of docs/RULES.md, and their ranges.
pub mod Metering
pub mod Promise
