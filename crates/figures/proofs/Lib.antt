-- The laws of the figure file, which the layers above cite.
pub mod Parts
pub mod Clear
pub mod Front
