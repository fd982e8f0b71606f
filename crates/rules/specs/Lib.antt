-- The rules.
pub mod Rules
pub mod Starred
