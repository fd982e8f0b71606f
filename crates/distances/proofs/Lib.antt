-- The laws of positions, distances and cells.
pub mod Tests
pub mod PositionLaws
pub mod RoundLaws
pub mod RectangleLaws
