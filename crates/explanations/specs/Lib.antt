-- An explanation written.
pub mod Written
