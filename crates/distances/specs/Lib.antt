-- Where one point of a traverse stands, and which layouts are worked.
pub mod Promise
pub mod Positions
pub mod Round
pub mod Rectangle
