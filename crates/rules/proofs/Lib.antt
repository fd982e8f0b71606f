-- The laws of the table, which the layers above cite.
pub mod Starred
