-- The laws of the records, which the layers above cite.
pub mod InRange
pub mod Places
pub mod Tables
