-- The figure file.
pub mod Figures
