-- An array filled from the front.
pub mod Arrays
