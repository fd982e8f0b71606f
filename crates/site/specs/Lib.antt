-- The sampling site.
pub mod Site
