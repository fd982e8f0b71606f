-- The laws of writes, which the layers above cite.
pub mod Splice
pub mod Bytes
pub mod Records
pub mod Refusals
