-- The job file as a whole: where everything stands in it, its first trouble, and the job that is read.
pub mod Places
pub mod Troubles
pub mod Reading
pub mod ReadFiles
pub mod Worked
