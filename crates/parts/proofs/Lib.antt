-- The laws of the parts, which the layers above cite.
pub mod InRange
pub mod Places
