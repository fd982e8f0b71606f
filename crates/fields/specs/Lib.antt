-- Numbers in a file, and the first trouble met in it.
pub mod Numbers
pub mod Trouble
pub mod Refusals
