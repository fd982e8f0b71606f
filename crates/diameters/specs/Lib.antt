-- The diameter of a stack.
pub mod Diameters
