-- What becomes of a sheet when an array is written or gets its values, and which cell blocks a spill.
use Rattle.std.specs.Prelude.{ℕ, zero, suc, ℤ, pos, ◌*ℤ◌, Bool, false, not, ◌&&◌, ◌||◌, List, [], ◌∷◌, Option, Some, None, if◌then◌else◌}
use Rattle.std.specs.FinMap as finite
use Rattle.std.specs.Ordering.{int_eq}
use Rattle.ic_cells.specs.Style as styling
use Rattle.ic_cells.specs.declared.cell.ArrayKind.{ArrayKind}
use Rattle.ic_cells.specs.declared.cell.ArrayKind.TheVariants as kinds
use Rattle.ic_cells.specs.declared.cell.Cell.{Cell}
use Rattle.ic_cells.specs.declared.cell.Cell.TheVariants as cells
use Rattle.ic_cells.specs.declared.layout.Merge.{Merge}
use Rattle.ic_cells.specs.declared.style.Style.{Style}
use Rattle.ic_cells.specs.declared.value.SpillValue.{SpillValue}
use Rattle.ic_cells.specs.declared.value.SpillValue.TheVariants as spills
use Rattle.ic_grid.specs.Block.{Place, first_place, has_places, is_in_sheet, is_single, next_place, same_place}
use Rattle.ic_grid.specs.Contents.{Contents}
use Rattle.ic_grid.specs.Merges.{is_merged}
use Rattle.ic_grid.specs.Prepare.{loosened_in, without_spill}
use Rattle.ic_grid.specs.Shape.{Holding, Shape, Anchor, celled, gathered, is_empty, is_spill_of}
use Rattle.ic_grid.specs.Style.{Columns, Rows, style_at}
use Rattle.ic_grid.specs.Value.{is_cse_anchor, shape_at}
use Rattle.ic_grid.specs.declared.block.Block.{Block}

-- an array has another area than these columns and rows
abbrev pub has_other_area : ℤ → ℤ → Shape → Bool
has_other_area width height (Anchor w h kind) = not (int_eq w width && int_eq h height)
has_other_area width height shape = false

-- the values of an array don't fit a block from its formula on: the block has no place, or another number of places, or
-- the array is a Cse array of another area
abbrev pub misfits : Block → ℕ → Shape → Bool
misfits b count shape =
    not (has_places b) || not (int_eq (b.width *ℤ b.height) (pos count)) || (is_cse_anchor shape && has_other_area b.width b.height shape)

-- empty, or one of the spill of the formula at a place
abbrev pub is_free : Place → Shape → Bool
is_free a shape = is_empty shape || is_spill_of a shape

module _ {X : Type 0} (h : Holding X) where
  -- a place keeps the array of the formula at another, `a`, from spilling: it is past the edge of the sheet, or one of
  -- merged cells, or holds something else than a cell of this array's spill
  abbrev pub blocks : List Merge → Contents X → Place → Place → Bool
  blocks merges m a q =
      not (is_in_sheet q) || is_merged merges q || not (same_place q a || is_free a (shape_at h m q))

  -- the first of so many places of a block, by rows from one on, that does
  abbrev pub first_of_blocking : List Merge → Contents X → Place → Block → ℕ → Place → Option Place
  first_of_blocking merges m a b zero q = None
  first_of_blocking merges m a b (suc n) q =
      if blocks merges m a q then Some q else first_of_blocking merges m a b n (next_place b q)

  -- the first place of a block of so many places, by rows, that keeps a formula of this shape at its first place from
  -- spilling. A Cse array and a block of one place are kept by none.
  abbrev pub first_to_block : List Merge → Contents X → Block → ℕ → Shape → Option Place
  first_to_block merges m b count shape =
      if is_cse_anchor shape || is_single b then None else first_of_blocking merges m (first_place b) b count (first_place b)

  -- the same for the formula that stands there
  abbrev pub first_blocking : List Merge → Contents X → Block → ℕ → Option Place
  first_blocking merges m b count = first_to_block merges m b count (shape_at h m (first_place b))

  -- the formula that stands at a place, if one does, gets this area and this value
  abbrev pub with_first : Block → SpillValue → Option X → Contents X → Contents X
  with_first b value None m = m
  with_first b value (Some x) m = finite.insert m (first_place b) (h.with_value (gathered value) (h.with_area b.width b.height x))

  -- each of these values stands in a cell of the spill of a block, by rows from a place on, in the style of the place
  abbrev pub filled : Rows → Columns → Block → Place → List SpillValue → Contents X → Contents X
  filled rows columns b q [] m = m
  filled rows columns b q (value ∷ values) m =
      filled rows columns b (next_place b q) values (finite.insert m q (h.spill (style_at h m rows columns q) (first_place b) value))

  -- an array formula gets its values, by rows: the old spill is emptied, the first value is the formula's, and the
  -- others stand in the cells of its new spill
  abbrev pub spilled : Rows → Columns → Block → List SpillValue → Contents X → Contents X
  spilled rows columns b [] m = m
  spilled rows columns b (value ∷ values) m =
      filled rows columns b (next_place b (first_place b)) values
      (with_first b value (finite.get m (first_place b)) (without_spill h (first_place b) m))

-- the number of a style without its quote flag, and the list that has it
abbrev pub unquoted : List Style → ℕ → ℕ × List Style
unquoted styles s =
    if (styling.style_at styles s).quote_prefix
    then (styling.style_number (styling.with_quote_prefix false (styling.style_at styles s)) styles, styling.with_style_in (styling.with_quote_prefix false (styling.style_at styles s)) styles)
    else (s, styles)

module _ {X : Type 0} (h : Holding X) (rows : Rows) (columns : Columns) where
  -- the style that a place gets when a value is written there: the one it has, without its quote flag
  abbrev pub written_style : Contents X → List Style → Place → ℕ × List Style
  written_style m styles q = unquoted styles (style_at h m rows columns q)

  -- so many places of a block, by rows from one on, are cells of its array with the empty text
  abbrev pub with_blanks : Block → ℕ → Place → Contents X → List Style → Contents X × List Style
  with_blanks b zero q m styles = (m, styles)
  with_blanks b (suc n) q m styles =
      with_blanks b n (next_place b q) (finite.insert m q (h.spill (written_style m styles q).0 (first_place b) (spills.Text []))) (written_style m styles q).1

  -- a Cse array with this formula is written into a block of so many places and one: each array with a cell in it is
  -- released, the formula stands at the first place, without a value, and the others have the empty text
  abbrev pub array_written : Block → ℕ → ℕ → Contents X → List Style → Contents X × List Style
  array_written b more f m styles =
      with_blanks b more (next_place b (first_place b))
      (finite.insert (loosened_in h b m) (first_place b) (h.array f (written_style m styles (first_place b)).0 b.width b.height kinds.Cse))
      (written_style m styles (first_place b)).1

-- for each of these values, by rows from a place of a block on, a cell of its spill in the style of its place
abbrev pub rest_cells : Rows → Columns → Contents Cell → Block → Place → List SpillValue → List Cell
rest_cells rows columns m b q [] = []
rest_cells rows columns m b q (v ∷ vs) =
    celled.spill (style_at celled m rows columns q) (first_place b) v ∷ rest_cells rows columns m b (next_place b q) vs

-- the cells of an array with these values: its formula, which has the first, and the cells of its spill
abbrev pub array_cells : Rows → Columns → Contents Cell → Block → ℕ → ℕ → ArrayKind → List SpillValue → List Cell
array_cells rows columns m b f s kind [] = []
array_cells rows columns m b f s kind (v ∷ vs) =
    cells.ArrayFormula kind f s (b.width, b.height) (gathered v) ∷ rest_cells rows columns m b (next_place b (first_place b)) vs
