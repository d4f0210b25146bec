-- What stands in a sheet, seen and held in several ways.
pub mod AlikeGrid
pub mod AlikeLemmas
pub mod ArrayCells
pub mod BareGrid
pub mod HaveLemmas
pub mod PlacedLemmas
pub mod SeenLemmas
pub mod WholeLemmas
