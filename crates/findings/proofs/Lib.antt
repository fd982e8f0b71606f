-- The laws of the list, which the layers above cite.
pub mod Counted
pub mod Places
pub mod Filling
pub mod InRange
pub mod Absent
pub mod Most
pub mod Accepting
pub mod Members
pub mod Speaking
pub mod Seeking
