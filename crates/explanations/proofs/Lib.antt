-- The laws of an explanation written.
pub mod Shown
pub mod Lengths
