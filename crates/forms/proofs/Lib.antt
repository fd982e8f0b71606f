-- The laws of the parts of an explanation in a form.
pub mod Days
pub mod Lengths
