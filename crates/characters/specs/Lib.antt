-- Numbers and words as characters, and a buffer into which a text was written.
pub mod Numbers
pub mod Words
pub mod Writing
