-- The certificate days behind a finding.
pub mod Side
pub mod Dates
