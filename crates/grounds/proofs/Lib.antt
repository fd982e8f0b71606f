-- The laws that the layers above cite.
pub mod Exactly
pub mod Showing
