-- What each condition of a rule compares, in words.
pub mod Wording
