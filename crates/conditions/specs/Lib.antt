-- What the rules go by.
pub mod Conditions
