-- What the chosen certificates give the lines.
pub mod Factor
pub mod InRange
