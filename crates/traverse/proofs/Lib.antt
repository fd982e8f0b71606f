-- The laws of the layouts; what is proved of them beyond their contracts stands in Theorems.
pub mod ListLaws
pub mod RowLaws
pub mod Theorems
