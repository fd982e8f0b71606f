-- The places and the classes of findings.
pub mod Classes
