-- The header of a job file: its fields, and the trouble met in it.
pub mod Opening
