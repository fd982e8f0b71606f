-- The parts of a run in a file, points, segments and weighings: what they hold, and the trouble met in them.
pub mod Values
pub mod Rows
