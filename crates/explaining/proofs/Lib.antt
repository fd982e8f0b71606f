-- The laws of a finding explained.
pub mod Because
