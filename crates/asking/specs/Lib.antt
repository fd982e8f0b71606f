-- What comes of the calls for one of a run's findings, explained.
pub mod Outcomes
