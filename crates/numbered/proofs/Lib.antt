-- The laws of lists and tables, which the layers above cite.
pub mod Rest
