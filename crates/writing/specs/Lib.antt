-- Lines and findings as they are handed over.
pub mod Bytes
