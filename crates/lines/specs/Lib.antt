-- The twenty lines of a run, the sheet that holds them, and the starred values.
pub mod Promise
pub mod Sheet
pub mod Starred
