-- The ranges of what certificates give, which the layers above cite.
pub mod Values
