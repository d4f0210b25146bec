-- The first line of bytes.
use Rattle.std.specs.Prelude.{◌≡◌, ℕ, ◌<◌, List, ◌∷◌, length}
use Rattle.ic_laws.specs.Lines.{texts_of}

-- these bytes begin with this line, and this stands behind it and its line feed
pub record BeginsLine (bytes line rest : List ℕ) : Type 0 where
  pub lines : texts_of bytes ≡ line ∷ texts_of rest
  pub fewer : length rest < length bytes
