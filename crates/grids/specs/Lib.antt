-- The grids of docs/RULES.md.
pub mod Grids
