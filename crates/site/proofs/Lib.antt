-- The laws of the site, which the layers above cite.
pub mod Words
