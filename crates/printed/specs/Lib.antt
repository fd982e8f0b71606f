-- What comes of the calls for a job's text.
pub mod Printing
