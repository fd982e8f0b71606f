-- The laws of looking back over the certificates, which the layers above cite.
pub mod LookBack
