-- The laws of the conditions, which the layers above cite.
pub mod Parts
pub mod Net
pub mod Words
