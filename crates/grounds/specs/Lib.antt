-- What rules go by, when that breaks them, and what is shown of it.
pub mod Comparing
pub mod Grounds
pub mod Showing
