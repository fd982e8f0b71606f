-- What the calls for traverse layouts answer and write.
pub mod Outcomes
