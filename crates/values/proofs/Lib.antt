-- The laws that the groups of lines share.
pub mod Promise
pub mod Signs
pub mod Sums
pub mod Taken
