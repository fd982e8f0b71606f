-- The laws of the grids, which the layers above cite.
pub mod Grids
