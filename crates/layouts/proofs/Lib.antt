-- The laws of distances as bytes, and of what comes of a call.
pub mod Distances
pub mod Answers
