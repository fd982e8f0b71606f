-- The laws of conditions and certificate days, which the layers above cite.
pub mod Lengths
