-- The laws of the letters, which the layers above cite.
pub mod HowMany
