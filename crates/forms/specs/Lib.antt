-- The parts of an explanation in a form.
pub mod Forms
