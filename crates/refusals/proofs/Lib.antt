-- The laws of the reasons, which the layers above cite.
pub mod Reasons
