-- The order of places by rows, and the first of them at which something stands.
use Rattle.std.proofs.Common.{◌≡◌, ◌∙◌, refl, sym, ap, subst, ℤ, pos, Bool, true, false, cond, not, ◌&&◌, ◌||◌, ◌⊎◌, inl, inr, Option, Some, None, IsSome, is_some, List, [], ◌∷◌, arith}
use Rattle.std.proofs.lemmas.Bool.{and_from, and_parts, both_ways}
use Rattle.std.proofs.lemmas.Int.{ints}
use Rattle.std.specs.BTreeMap as tree
use Rattle.std.specs.BTreeMap.{BTreeMap, is_at}
use Rattle.std.specs.Map.{lookup}
use Rattle.std.specs.Cmp.{IsTotalOrder}
use Rattle.std.specs.BTreeMap.Range.{IsEntryInRange, IsLeBy, IsRangeOf}
use Rattle.std.specs.List.{slice_get}
use Rattle.std.specs.Option.{IfNone, IfSome, option_map, unwrap_or}
use Rattle.std.specs.declared.ops.Bound.TheVariants.{Included, Unbounded}
use Rattle.std.specs.FinMap as finite
use Rattle.std.specs.Prelude.{int_le, int_lt, ◌+ℤ◌, ◌≤ℤ◌, ◌<ℤ◌}
use Rattle.std.specs.Ordering.{is_eq, is_gt, ordering_then}
use Rattle.std.specs.declared.cmp.Ordering.{Ordering}
use Rattle.std.specs.declared.cmp.Ordering.TheVariants.{Less, Equal, Greater}
use Rattle.ic_cells.specs.Maps.{HasNoneBetween, place_cmp}
use Rattle.ic_cells.specs.declared.cell.Cell.{Cell}
use Rattle.ic_grid.specs.Block.{Place, is_between, is_in_block, is_in_span}
use Rattle.ic_grid.specs.Contents.{Contents}
use Rattle.ic_grid.specs.Walk.{HasNone, HasNoneIn, IsFirst, IsFirstIn, IsFirstPassing, IsPassed, IsSeen, NonePasses, NoneUpTo, is_from, is_left, is_wanted, row_behind, wanted_at}
use Rattle.ic_grid.specs.declared.block.Block.{Block}
use Rattle.ic_grid.specs.declared.walk.Seen.{Seen}
use Rattle.ic_grid.specs.declared.walk.Seen.TheVariants as seen
use Rattle.ic_grid.specs.declared.walk.Wanted.{Wanted}
use Rattle.ic_grid.specs.declared.walk.Wanted.TheVariants as wanted

by_tests : (l g l2 g2 le : Bool) → le ≡ not g2 → (l2 ≡ true → g2 ≡ false) → is_gt (ordering_then (cond l Less (cond g Greater Equal)) (cond l2 Less (cond g2 Greater Equal))) ≡ not (l || (is_eq (cond l Less (cond g Greater Equal)) && le))
by_tests true g l2 g2 le e h = refl
by_tests false true l2 g2 le e h = refl
by_tests false false true true le e h = let no : true ≡ false = h refl in cc
by_tests false false true false le e h = ap not (sym e)
by_tests false false false true le e h = ap not (sym e)
by_tests false false false false le e h = ap not (sym e)

le_turned : (x y : ℤ) → int_le x y ≡ not (int_lt y x)
le_turned x y = grind (arith, ints)

lt_not : (x y : ℤ) → int_lt x y ≡ true → int_lt y x ≡ false
lt_not x y e = grind (arith, ints, e)

-- the order of places as it is told by tests on numbers
pub from_is : (p q : Place) → is_gt (place_cmp p q) ≡ not (is_from p q)
unfolding is_from
from_is p q = by_tests (int_lt p.0 q.0) (int_lt q.0 p.0) (int_lt p.1 q.1) (int_lt q.1 p.1) (int_le p.1 q.1) (le_turned p.1 q.1) (lt_not p.1 q.1)

pub from_when : (p q : Place) → is_gt (place_cmp p q) ≡ false → is_from p q ≡ true
from_when p q e = flipped (is_from p q) (sym (from_is p q) ∙ e)
  where
    flipped : (b : Bool) → not b ≡ false → b ≡ true
    flipped true e = refl
    flipped false e = cc

pub from_means : (p q : Place) → is_from p q ≡ true → is_gt (place_cmp p q) ≡ false
from_means p q e = from_is p q ∙ ap not e

-- what an ordered map's part from a place on says
module _ {X : Type 0} (m : BTreeMap Place X) (from : Place) (r : List (Place × X)) (range : IsRangeOf place_cmp (Included from) Unbounded m r) where
  pub first_at : (p : Place) (x : X) (rest : List (Place × X)) → r ≡ (p, x) ∷ rest → IsFirst (tree.get place_cmp m) from p
  first_at p x rest e =
      let here = subst (λ (l : List (Place × X)). IfSome (slice_get l 0) (IsEntryInRange place_cmp (Included from) Unbounded m)) e range.1 in
      record { there = ap is_some here.1; behind = from_when from p here.0.0; first = first }
    where
      none_of : (q : Place) (o : Option X) → is_from p q ≡ false → (IsSome o → is_gt (place_cmp p q) ≡ false) → o ≡ None
      none_of q None out h = refl
      none_of q (Some y) out h = absurd (both_ways (is_from p q) out (from_when p q (h refl)))

      first : (q : Place) → is_from from q ≡ true → is_from p q ≡ false → tree.get place_cmp m q ≡ None
      first q f out =
          none_of q (tree.get place_cmp m q) out (λ some.
          subst (λ (l : List (Place × X)). IfSome (slice_get l 0) (λ e. IsLeBy place_cmp e.0 q)) e (range.2 q (from_means from q f, tt) some))

  pub none_at : r ≡ [] → HasNone (tree.get place_cmp m) from
  none_at e q f = range.5 e q (from_means from q f, tt)

-- the same of the finite map
pub first_as : {X : Type 0} (f g : Place → Option X) (from p : Place) → ((q : Place) → f q ≡ g q) → IsFirst f from p → IsFirst g from p
first_as f g from p e h = record {
  there = subst (λ o. IsSome o) (e p) h.there;
  behind = h.behind;
  first = λ q a b. sym (e q) ∙ h.first q a b;
}

pub none_as : {X : Type 0} (f g : Place → Option X) (from : Place) → ((q : Place) → f q ≡ g q) → HasNone f from → HasNone g from
none_as f g from e h q a = sym (e q) ∙ h q a

pub some_first : {X : Type 0} (f g : Place → Option X) (from : Place) (o : Option Place) → ((q : Place) → f q ≡ g q) → IfSome o (IsFirst f from) → IfSome o (IsFirst g from)
some_first f g from None e h = h
some_first f g from (Some p) e h = first_as f g from p e h

pub none_first : {X : Type 0} (f g : Place → Option X) (from : Place) (o : Option Place) → ((q : Place) → f q ≡ g q) → IfNone o (HasNone f from) → IfNone o (HasNone g from)
none_first f g from None e h = none_as f g from e h
none_first f g from (Some p) e h = h

-- a place of a lower row comes before
pub row_before : (p q : Place) → q.0 <ℤ p.0 → is_from p q ≡ false
unfolding is_from
row_before p q less = grind (arith, ints)

-- what a number among others is
pub between_is : (first last n : ℤ) → is_between first last n ≡ true → (first ≤ℤ n) × (n <ℤ last)
unfolding is_between
between_is first last n e =
    let both = and_parts (int_le first n) (int_lt n last) e in
    (grind (arith, ints, both.0), grind (arith, ints, both.1))

pub record InBlock (b : Block) (q : Place) : Type 0 where
  pub top : b.row ≤ℤ q.0
  pub bottom : q.0 <ℤ (b.row +ℤ b.height)
  pub left : b.column ≤ℤ q.1
  pub right : q.1 <ℤ (b.column +ℤ b.width)

pub in_block : (b : Block) (q : Place) → is_in_block b q ≡ true → InBlock b q
in_block b q e =
    let both = and_parts (is_in_span b.row b.height q.0) (is_in_span b.column b.width q.1) e in
    let rows = between_is b.row (b.row +ℤ b.height) q.0 both.0 in
    let columns = between_is b.column (b.column +ℤ b.width) q.1 both.1 in
    record { top = rows.0; bottom = rows.1; left = columns.0; right = columns.1 }

-- a place that isn't before another is in its row or below
pub from_row : (p q : Place) → is_from p q ≡ true → p.0 ≤ℤ q.0
unfolding is_from
from_row p q e = grind (arith, ints)

find_is : {K X : Type 0} (R : K → K → Ordering) (es : List (K × X)) (q : K) → finite.find R q es ≡ lookup (is_at (R q)) es
find_is R [] q = refl
find_is R (e ∷ es) q = ap (cond (is_at (R q) e.0) (Some e.1)) (find_is R es q)

-- what an ordered map has is what the finite map has
pub map_get : {K X : Type 0} {R : K → K → Ordering} → IsTotalOrder R → (m : BTreeMap K X) (v : finite.FinMap R X) → finite.from_entries m.entries ≡ v → (q : K) → tree.get R m q ≡ finite.get v q
map_get {X = X} {R = R} o m v e q = sym (ap (λ (w : finite.FinMap R X). finite.get w q) (sym e) ∙ finite.get-from_entries o m.entries q ∙ find_is R m.entries q)

-- in an order, each is before itself, and before what is behind what it is before
pub from_itself : (p : Place) → is_from p p ≡ true
unfolding is_from
from_itself p = grind (arith, ints)

pub from_far : (p q r : Place) → is_from p q ≡ true → is_from q r ≡ true → is_from p r ≡ true
unfolding is_from
from_far p q r e f = grind (arith, ints, e, f)

pub by_side : {P : Type 0} (t : Bool) → (t ≡ true → P) → (t ≡ false → P) → P
by_side true f g = f refl
by_side false f g = g refl

-- a row of a block is left for the next
abbrev start_of : Block → Place → Bool → Place
start_of b p true = (p.0, b.column)
start_of b p false = (p.0 +ℤ pos 1, b.column)

module _ (b : Block) (p : Place) where
  start_is : (t : Bool) → int_lt p.1 b.column ≡ t → row_behind b p ≡ start_of b p t
  start_is true e = ap (λ t. let at : Place = cond t (p.0, b.column) (p.0 +ℤ pos 1, b.column) in at) e
  start_is false e = ap (λ t. let at : Place = cond t (p.0, b.column) (p.0 +ℤ pos 1, b.column) in at) e

  module _ (at : Place) (after : is_from at p ≡ true) (left : b.column ≤ℤ at.1) where
    behind_more : (t : Bool) → int_lt p.1 b.column ≡ t → (at.0 +ℤ pos 1) ≤ℤ (start_of b p t).0
    unfolding is_from
    behind_more true e = grind (arith, ints, after, e)
    behind_more false e = grind (arith, ints, after, e)

    pub next_row : (next : Place) → next ≡ row_behind b p → (at.0 +ℤ pos 1) ≤ℤ next.0
    next_row next is =
        by_side (int_lt p.1 b.column)
        (λ t. subst (λ (n : Place). (at.0 +ℤ pos 1) ≤ℤ n.0) (sym (is ∙ start_is true t)) (behind_more true t))
        (λ t. subst (λ (n : Place). (at.0 +ℤ pos 1) ≤ℤ n.0) (sym (is ∙ start_is false t)) (behind_more false t))

    pub next_from : (next : Place) → next ≡ row_behind b p → is_from at next ≡ true
    unfolding is_from
    next_from next is = let more = next_row next is in grind (arith, ints, more)

  pub next_column : (next : Place) → next ≡ row_behind b p → b.column ≤ℤ next.1
  next_column next is =
      by_side (int_lt p.1 b.column)
      (λ t. subst (λ (n : Place). b.column ≤ℤ n.1) (sym (is ∙ start_is true t)) (omega (arith, ints)))
      (λ t. subst (λ (n : Place). b.column ≤ℤ n.1) (sym (is ∙ start_is false t)) (omega (arith, ints)))

  -- no place of the block lies between
  between_rows : (q : Place) → InBlock b q → ((b.column +ℤ b.width) ≤ℤ p.1) ⊎ (p.1 <ℤ b.column) → (t : Bool) → int_lt p.1 b.column ≡ t → is_from (start_of b p t) q ≡ false → is_from p q ≡ false
  unfolding is_from
  between_rows q i side true e out = grind (arith, ints, out, e, i.left, i.right)
  between_rows q i (inl side) false e out = grind (arith, ints, out, e, i.left, i.right, side)
  between_rows q i (inr side) false e out = grind (arith, ints, out, e, side)

  outside : is_in_block b p ≡ false → b.row ≤ℤ p.0 → p.0 <ℤ (b.row +ℤ b.height) → ((b.column +ℤ b.width) ≤ℤ p.1) ⊎ (p.1 <ℤ b.column)
  unfolding is_between
  outside out top bottom = by_side (int_lt p.1 b.column) (λ t. inr (grind (arith, ints, t))) (λ t. inl (grind (arith, ints, t, out)))

  skipped : is_in_block b p ≡ false → b.row ≤ℤ p.0 → p.0 <ℤ (b.row +ℤ b.height) → (next : Place) → next ≡ row_behind b p → (q : Place) → is_in_block b q ≡ true → is_from next q ≡ false → is_from p q ≡ false
  skipped out top bottom next is q inside before =
      by_side (int_lt p.1 b.column)
      (λ t. between_rows q (in_block b q inside) (outside out top bottom) true t (ap (λ (n : Place). is_from n q) (sym (is ∙ start_is true t)) ∙ before))
      (λ t. between_rows q (in_block b q inside) (outside out top bottom) false t (ap (λ (n : Place). is_from n q) (sym (is ∙ start_is false t)) ∙ before))

module _ (test : Place → Bool) (b : Block) (from : Place) where
  inside : (q : Place) → is_left b from q ≡ true → is_in_block b q ≡ true
  inside q left = (and_parts (is_in_block b q) (is_from from q) left).0

  module _ (at : Place) (passed : NoneUpTo test b from at) where
    onward : (q : Place) → is_left b from q ≡ true → is_from at q ≡ true → is_left b at q ≡ true
    onward q left t = and_from (is_in_block b q) (is_from at q) (inside q left) t

    pub none_left : NonePasses test b at → NonePasses test b from
    none_left none q left = by_side (is_from at q) (λ t. none q (onward q left t)) (passed q left)

    pub found : is_from from at ≡ true → (p : Place) → IsFirstPassing test b at p → IsFirstPassing test b from p
    found behind p f = record {
      passes = f.passes;
      within = f.within;
      behind = from_far from at p behind f.behind;
      first = λ q left before. by_side (is_from at q) (λ t. f.first q (onward q left t) before) (passed q left);
    }

    pub done : (b.row +ℤ b.height) ≤ℤ at.0 → NonePasses test b from
    done low q left =
        let i = in_block b q (inside q left) in
        passed q left (row_before at q (omega (arith, ints, i.bottom, low)))

    pub passed_more : (p : Place) → IsPassed test b at p → b.row ≤ℤ at.0 → (next : Place) → next ≡ row_behind b p → NoneUpTo test b from next
    passed_more p f top next is q left before =
        by_side (is_from at q)
        (λ t. f.first q (onward q left t) (skipped b p f.out (omega (arith, ints, from_row at p f.behind, top)) f.above next is q (inside q left) before)) (passed q left)

-- in a block in whose columns nothing stands, a walk stops nowhere
pub none_in_columns : (m : Contents Cell) (w : Wanted) (b : Block) (from : Place) → HasNoneBetween m b.column (b.column +ℤ b.width)
    → NonePasses (wanted_at w b (finite.get m)) b from
none_in_columns m w b from none q left =
    let i = in_block b q (inside (λ _. true) b from q left) in
    ap (λ o. unwrap_or (option_map (is_wanted w b q) o) false) (none q i.left i.right)

-- the first cell of all
module _ (m : Contents Cell) (b : Block) (from : Place) where
  stands : (q : Place) (o : Option Cell) → unwrap_or (option_map (is_wanted wanted.Any b q) o) false ≡ true → IsSome o
  stands q None e = let never : false ≡ true = e in cc
  stands q (Some x) e = refl

  missing : (q : Place) (o : Option Cell) → unwrap_or (option_map (is_wanted wanted.Any b q) o) false ≡ false → o ≡ None
  missing q None e = refl
  missing q (Some x) e = let never : true ≡ false = e in cc

  pub some_any : (r : Option Place) → IfSome r (IsFirstPassing (wanted_at wanted.Any b (finite.get m)) b from) → IfSome r (IsFirstIn m b from)
  some_any None h = h
  some_any (Some p) h = record {
    there = stands p (finite.get m p) h.passes;
    within = h.within;
    behind = h.behind;
    first = λ q left before. missing q (finite.get m q) (h.first q left before);
  }

  pub none_any : (r : Option Place) → IfNone r (NonePasses (wanted_at wanted.Any b (finite.get m)) b from) → IfNone r (HasNoneIn m b from)
  none_any None h = λ q left. missing q (finite.get m q) (h q left)
  none_any (Some p) h = h

-- a look over an ordered map is one over the finite map
pub seen_as : (f g : Place → Option Cell) (w : Wanted) (b : Block) (from : Place) (r : Seen) → ((q : Place) → f q ≡ g q) → IsSeen (wanted_at w b f) b from r → IsSeen (wanted_at w b g) b from r
seen_as f g w b from r e h = by_seen r h
  where
    same : (q : Place) → wanted_at w b g q ≡ wanted_at w b f q
    same q = ap (λ o. unwrap_or (option_map (is_wanted w b q) o) false) (sym (e q))

    by_seen : (r : Seen) → IsSeen (wanted_at w b f) b from r → IsSeen (wanted_at w b g) b from r
    by_seen (seen.Found p) h = record {
      passes = same p ∙ h.passes;
      within = h.within;
      behind = h.behind;
      first = λ q left before. same q ∙ h.first q left before;
    }
    by_seen (seen.Passed p) h = record {
      out = h.out;
      above = h.above;
      behind = h.behind;
      first = λ q left before. same q ∙ h.first q left before;
    }
    by_seen seen.End h = λ q left. same q ∙ h q left
