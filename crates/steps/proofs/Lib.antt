-- The laws of a figure's steps, which the loop over them cites.
pub mod Taking
