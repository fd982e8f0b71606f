-- What the public calls answer, and what they write.
pub mod Calls
