-- Which certificates a run is worked with.
pub mod Choosing
