-- What comes of handing a reduced run over.
pub mod Handing
