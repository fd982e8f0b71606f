-- What every group of lines shares: the shapes of a line's promise, and the sum that a signed reading is part of.
pub mod Promise
pub mod Signed
