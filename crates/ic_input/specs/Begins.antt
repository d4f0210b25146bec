-- How texts begin.
use Rattle.std.specs.Prelude.{◌≡◌, ◌<◌, ℕ, List, Some}
use Rattle.std.specs.Char.{to_ascii_lowercase}
use Rattle.std.specs.List.{slice_get}

-- the first byte of a text is an ASCII character with this lower case
pub record BeginsWith (text : List ℕ) (first : ℕ) : Type 0 where
  pub byte : ℕ
  pub is : slice_get text 0 ≡ Some byte
  pub ascii : byte < 128
  pub lower : to_ascii_lowercase byte ≡ first
