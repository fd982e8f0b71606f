-- What a traverse layout is.
pub mod Layout
