-- The theorems over the calls that explain.
pub mod Conditions
pub mod Placed
pub mod SiteNumbers
pub mod Answered
pub mod TwoReasons
pub mod Rows
pub mod FitsShown
pub mod FitsPoints
pub mod FitsGrounds
pub mod FitsLines
pub mod Fits
pub mod Seventy
