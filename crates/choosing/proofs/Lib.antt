-- The laws of the choice, which the layers above cite.
pub mod Choosing
