-- What the calls that count a job's runs answer.
pub mod Counting
