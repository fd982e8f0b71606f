-- The laws of the definitions, which the layers above cite.
pub mod Rounding
pub mod Root
pub mod Search
pub mod Signs
pub mod Differences
