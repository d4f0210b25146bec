-- Formulas with lost references.
pub mod FoldFusion
pub mod LostKept
pub mod LostTokens
pub mod LostTrees
pub mod LostWell
