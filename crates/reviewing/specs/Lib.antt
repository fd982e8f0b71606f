-- What the calls that explain a finding have to be trusted for.
pub mod Shown
pub mod Asking
pub mod Numbers
