-- What a request gets back.
pub mod Requests
