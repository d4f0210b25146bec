-- What becomes of a sheet when a cell is written: the array that the place belongs to is released first.
use Rattle.std.specs.Prelude.{true, Option, Some, None, if◌then◌else◌}
use Rattle.std.specs.FinMap as finite
use Rattle.ic_grid.specs.Arrays.{anchor_at, array_at, reaches}
use Rattle.ic_grid.specs.Block.{Place, same_place}
use Rattle.ic_grid.specs.Contents.{Contents, changed_where, remade}
use Rattle.ic_grid.specs.Shape.{Holding, emptied, is_anchor, is_spill_of, reset}
use Rattle.ic_grid.specs.declared.block.Block.{Block}

module _ {X : Type 0} (h : Holding X) where
  -- a cell of the spill of the formula at this place is emptied; anything else stays
  abbrev pub unspilled : Place → X → X
  unspilled a x = if is_spill_of a (h.shape x) then emptied h x else x

  -- each cell of its spill is emptied
  abbrev pub without_spill : Place → Contents X → Contents X
  without_spill a m = changed_where (λ q. true) (unspilled a) m

  -- the formula of an array is reset; anything else stays
  abbrev pub anchor_reset : X → X
  anchor_reset x = if is_anchor (h.shape x) then reset h x else x

  -- the array of the formula at this place is released: the formula has no value and is for its own cell alone, and the
  -- cells of its spill are emptied
  abbrev pub released : Place → Contents X → Contents X
  released a m = changed_where (λ q. same_place q a) anchor_reset (without_spill a m)

  abbrev pub released_if : Option Place → Contents X → Contents X
  released_if None m = m
  released_if (Some a) m = released a m

  -- a place is prepared for writing: the array that it belongs to, if any, is released
  abbrev pub prepared : Place → Contents X → Contents X
  prepared p m = released_if (anchor_at h m p) m

  -- what becomes of a cell of an array that is released: the formula is reset, a cell of the spill emptied
  abbrev pub loosened : X → X
  loosened x = if is_anchor (h.shape x) then reset h x else emptied h x

  -- each array with a cell in a block is released
  abbrev pub loosened_in : Block → Contents X → Contents X
  loosened_in b m = remade (λ q x. Some (if reaches b (array_at h m q) then loosened x else x)) m

  -- a cell is written
  abbrev pub written : Place → X → Contents X → Contents X
  written p x m = finite.insert (prepared p m) p x
