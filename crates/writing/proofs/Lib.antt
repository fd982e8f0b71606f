-- The laws of what is written, which the layers above cite.
pub mod Sizes
