-- A condition and a certificate day, as bytes and as text.
pub mod Bytes
pub mod Text
