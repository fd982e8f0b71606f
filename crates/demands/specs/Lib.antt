-- What the calls have to be trusted for.
pub mod FigureFile
pub mod ReadingOrder
pub mod Table
pub mod Equations
pub mod Percent
pub mod Weighings
pub mod Demands
pub mod Front
pub mod Versions
pub mod OwnLetter
pub mod Starred
pub mod MovedFactor
pub mod ByFigure
