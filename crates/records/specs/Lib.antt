-- The records of a job and what it means that they are in range.
pub mod Records
pub mod InRange
pub mod Worked
