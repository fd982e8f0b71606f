-- The laws of the ranges, which the layers above cite.
pub mod InOrder
pub mod Ranges
pub mod LeastVolume
