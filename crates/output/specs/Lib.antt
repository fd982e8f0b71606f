-- A call's answer, numbers as bytes, and a buffer after a write.
pub mod Answers
pub mod Bytes
pub mod Splice
