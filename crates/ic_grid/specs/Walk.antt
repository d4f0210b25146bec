-- The places of a block one after another, by rows; and the first of them at which something stands.
use Rattle.std.specs.Prelude.{◌≡◌, pos, ◌+ℤ◌, ◌<ℤ◌, if◌then◌else◌, Bool, true, false, ◌&&◌, ◌||◌, int_le, int_lt, Option, None, IsSome, option_map}
use Rattle.std.specs.FinMap as finite
use Rattle.std.specs.Option.{unwrap_or}
use Rattle.std.specs.Ordering.{int_eq}
use Rattle.ic_cells.specs.declared.cell.Cell.{Cell}
use Rattle.ic_grid.specs.Arrays.{is_crossing}
use Rattle.ic_grid.specs.Block.{Place, is_in_block}
use Rattle.ic_grid.specs.Contents.{Contents}
use Rattle.ic_grid.specs.Shape.{shape_of}
use Rattle.ic_grid.specs.declared.block.Block.{Block}
use Rattle.ic_grid.specs.declared.walk.Seen.{Seen}
use Rattle.ic_grid.specs.declared.walk.Seen.TheVariants as seen
use Rattle.ic_grid.specs.declared.walk.Wanted.{Wanted}
use Rattle.ic_grid.specs.declared.walk.Wanted.TheVariants as wanted

-- the second place is the first, or comes after it
unfoldable pub is_from : Place → Place → Bool
is_from p q = int_lt p.0 q.0 || (int_eq p.0 q.0 && int_le p.1 q.1)

-- a place of a block, and none before another
abbrev pub is_left : Block → Place → Place → Bool
is_left b from q = is_in_block b q && is_from from q

-- the place to the right of another
abbrev pub right_of : Place → Place
right_of p = (p.0, p.1 +ℤ pos 1)

-- where the next row of a block begins behind a place that isn't one of its columns
abbrev pub row_behind : Block → Place → Place
row_behind b p = if int_lt p.1 b.column then (p.0, b.column) else (p.0 +ℤ pos 1, b.column)

module _ {X : Type 0} (get : Place → Option X) where
  -- something stands at this place, and nothing at those before it, from another on
  pub record IsFirst (from p : Place) : Type 0 where
    pub there : IsSome (get p)
    pub behind : is_from from p ≡ true
    pub first : (q : Place) → is_from from q ≡ true → is_from p q ≡ false → get q ≡ None

  -- nothing stands at a place from this one on
  abbrev pub HasNone : Place → Type 0
  HasNone from = (q : Place) → is_from from q ≡ true → get q ≡ None

module _ {X : Type 0} (m : Contents X) where
  -- the same of the places of a block
  pub record IsFirstIn (b : Block) (from p : Place) : Type 0 where
    pub there : IsSome (finite.get m p)
    pub within : is_in_block b p ≡ true
    pub behind : is_from from p ≡ true
    pub first : (q : Place) → is_left b from q ≡ true → is_from p q ≡ false → finite.get m q ≡ None

  -- a place of a block, from another on, with nothing before it
  pub record IsNextIn (b : Block) (from p : Place) : Type 0 where
    pub within : is_in_block b p ≡ true
    pub behind : is_from from p ≡ true
    pub first : (q : Place) → is_left b from q ≡ true → is_from p q ≡ false → finite.get m q ≡ None

  abbrev pub HasNoneIn : Block → Place → Type 0
  HasNoneIn b from = (q : Place) → is_left b from q ≡ true → finite.get m q ≡ None

-- which cells of a block a walk stops at: each, or those that tell of an array with a cell outside of the block
abbrev pub is_wanted : Wanted → Block → Place → Cell → Bool
is_wanted wanted.Any b p x = true
is_wanted wanted.Crossing b p x = is_crossing b p (shape_of x)

-- such a cell stands at a place
abbrev pub wanted_at : Wanted → Block → (Place → Option Cell) → Place → Bool
wanted_at w b get p = unwrap_or (option_map (is_wanted w b p) (get p)) false

module _ (test : Place → Bool) (b : Block) (from : Place) where
  -- no place of the block from this one on and before that one passes the test
  abbrev pub NoneUpTo : Place → Type 0
  NoneUpTo p = (q : Place) → is_left b from q ≡ true → is_from p q ≡ false → test q ≡ false

  -- the first place of the block that does
  pub record IsFirstPassing (p : Place) : Type 0 where
    pub passes : test p ≡ true
    pub within : is_in_block b p ≡ true
    pub behind : is_from from p ≡ true
    pub first : NoneUpTo p

  -- a place beside the block, before which none does
  pub record IsPassed (p : Place) : Type 0 where
    pub out : is_in_block b p ≡ false
    pub above : p.0 <ℤ (b.row +ℤ b.height)
    pub behind : is_from from p ≡ true
    pub first : NoneUpTo p

  abbrev pub NonePasses : Type 0
  NonePasses = (q : Place) → is_left b from q ≡ true → test q ≡ false

  -- what is seen on the way
  abbrev pub IsSeen : Seen → Type 0
  IsSeen (seen.Found p) = IsFirstPassing p
  IsSeen (seen.Passed p) = IsPassed p
  IsSeen seen.End = NonePasses
