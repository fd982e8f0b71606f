-- The laws of numbers and of trouble, which the layers above cite.
pub mod FirstTrouble
pub mod Tails
pub mod RecordTrouble
pub mod Refusals
pub mod SignedFields
