-- Lists of numbers, and tables with numbered rows.
pub mod Numbered
