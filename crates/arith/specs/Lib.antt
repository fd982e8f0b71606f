-- What the arithmetic means: a rounded quotient and a nearest root.
pub mod Rounding
pub mod Root
