-- Shared strings that are handed in, of which one may stand twice, each kept once, and cells with the numbers of theirs.
use Rattle.std.specs.Prelude.{◌≡◌, ◌<◌, ℕ, nat_lt, Bool, true, List, map, length, slice_get, unwrap_or}
use Rattle.std.specs.List.{AllByRecursion}
use Rattle.ic_laws.specs.Amount.{is_amount}
use Rattle.ic_cells.specs.Cell.{string_at}
use Rattle.ic_cells.specs.declared.cell.Cell.{Cell}
use Rattle.ic_cells.specs.declared.cell.Cell.TheVariants as cells

-- the numbers are those of the texts, in their order, among the strings that are kept
pub record AreNumbered (texts : List (List ℕ)) (numbers : List ℕ) (strings : List (List ℕ)) : Type 0 where
  pub told : map (string_at strings) numbers ≡ texts
  pub within : AllByRecursion (λ n. n < length strings) numbers

-- the number of the string at an index; past the end the index itself
abbrev pub number_at : List ℕ → ℕ → ℕ
number_at numbers index = unwrap_or (slice_get numbers index) index

-- a cell with the number of its string
abbrev pub renumbered : List ℕ → Cell → Cell
renumbered numbers (cells.SharedString index style) = cells.SharedString (number_at numbers index) style
renumbered numbers cell = cell

-- the string of a cell, if it is one, is one of so many, and its number, if it is one, is an amount
abbrev pub is_string_below : ℕ → Cell → Bool
is_string_below count (cells.SharedString index style) = nat_lt index count
is_string_below count (cells.NumberCell amount style) = is_amount amount
is_string_below count cell = true
