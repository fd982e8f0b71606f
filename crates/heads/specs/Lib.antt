-- Identities, certificates and run headers in a file: what they hold, and the trouble met in them.
pub mod Values
pub mod Rows
