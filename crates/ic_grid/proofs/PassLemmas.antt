-- A walk over the cells that an ordered map has from a place on.
use Rattle.std.proofs.Common.{◌≡◌, ◌∙◌, refl, sym, ap, subst, Bool, true, false, cond, ◌&&◌, Some, None, List, [], ◌∷◌, arith}
use Rattle.std.proofs.lemmas.Bool.{and_from, and_parts, both_ways}
use Rattle.std.proofs.lemmas.Int.{ints}
use Rattle.std.proofs.lemmas.List.Elements.{All-head, All-tail}
use Rattle.std.proofs.lemmas.List.Kept.{IsStrictlySortedBy-filter}
use Rattle.std.proofs.lemmas.Map.Entries.{lookup-filter-keys}
use Rattle.std.proofs.lemmas.Map.Keys.{sorted_tail}
use Rattle.std.proofs.lemmas.Map.Views.{All-after_first}
use Rattle.std.specs.BTreeMap as tree
use Rattle.std.specs.BTreeMap.{BTreeMap, is_at}
use Rattle.std.specs.BTreeMap.Range.{IsEntryInRange, IsRangeOf, entries_between, range_contains}
use Rattle.std.specs.FinMap as finite
use Rattle.std.specs.List.{All, filter}
use Rattle.std.specs.List.Sorted.{IsStrictlySortedBy}
use Rattle.std.specs.Map.{keys_of, lookup}
use Rattle.std.specs.Option.{option_map, unwrap_or}
use Rattle.std.specs.Ordering.{is_gt, is_le}
use Rattle.std.specs.declared.cmp.Ordering.{Ordering}
use Rattle.std.specs.declared.cmp.Ordering.TheVariants.{Less, Equal, Greater}
use Rattle.std.specs.declared.ops.Bound.TheVariants.{Included, Unbounded}
use Rattle.std.specs.Prelude.{◌+ℤ◌, ◌≤ℤ◌, ◌<ℤ◌}
use Rattle.ic_cells.specs.Maps.{place_cmp}
use Rattle.ic_cells.specs.declared.cell.Cell.{Cell}
use Rattle.ic_grid.proofs.ChangeLemmas.{first_from}
use Rattle.ic_grid.proofs.ContentsLemmas.{same_is}
use Rattle.ic_grid.proofs.WalkLemmas.{from_itself, from_means, from_when, in_block, row_before}
use Rattle.ic_grid.specs.Arrays.{HasNoCrossing}
use Rattle.ic_grid.specs.Block.{Place, first_place, is_in_block, same_place}
use Rattle.ic_grid.specs.Contents.{Contents}
use Rattle.ic_grid.specs.Walk.{IsFirstPassing, IsPassed, NonePasses, is_from, is_left, is_wanted, wanted_at}
use Rattle.ic_grid.specs.declared.block.Block.{Block}
use Rattle.ic_grid.specs.declared.walk.Wanted.{Wanted}
use Rattle.ic_grid.specs.declared.walk.Wanted.TheVariants as wanted

not_above : (r : Ordering) → is_gt r ≡ false → (is_le r && true) ≡ true
not_above Less e = refl
not_above Equal e = refl
not_above Greater e = cc

keys_filter : (p : Place → Bool) (es : List (Place × Cell)) → keys_of (filter (λ e. p e.0) es) ≡ filter p (keys_of es)
keys_filter p [] = refl
keys_filter p (e ∷ es) = by_test (p e.0) (keys_filter p es)
  where
    by_test : (t : Bool) → keys_of (filter (λ f. p f.0) es) ≡ filter p (keys_of es) → keys_of (cond t (e ∷ filter (λ f. p f.0) es) (filter (λ f. p f.0) es)) ≡ cond t (e.0 ∷ filter p (keys_of es)) (filter p (keys_of es))
    by_test true h = ap (λ ks. e.0 ∷ ks) h
    by_test false h = h

-- what stands behind a place isn't there before it
none_before : (p q : Place) (es : List (Place × Cell)) → All (λ k. place_cmp p k ≡ Less) (keys_of es) → is_from p q ≡ false → lookup (is_at (place_cmp q)) es ≡ None
none_before p q [] h out = refl
none_before p q (e ∷ es) h out = by_test (same_place q e.0) refl (none_before p q es (All-tail (λ k. place_cmp p k ≡ Less) e.0 (keys_of es) h) out)
  where
    by_test : (t : Bool) → same_place q e.0 ≡ t → lookup (is_at (place_cmp q)) es ≡ None → cond t (Some e.1) (lookup (is_at (place_cmp q)) es) ≡ None
    by_test true s more =
        let less : place_cmp p e.0 ≡ Less = All-head (λ k. place_cmp p k ≡ Less) e.0 (keys_of es) h in
        absurd (both_ways (is_from p q) out (ap (is_from p) (same_is q e.0 s) ∙ from_when p e.0 (ap is_gt less)))
    by_test false s more = more

module _ (m : BTreeMap Place Cell) (w : Wanted) (b : Block) (from : Place) where
  abbrev test : Place → Bool
  test = wanted_at w b (tree.get place_cmp m)

  -- the entries that a walk has before it: no other place of the block is wanted
  pub record Ahead (es : List (Place × Cell)) : Type 0 where
    pub sorted : IsStrictlySortedBy place_cmp (keys_of es)
    pub here : All (IsEntryInRange place_cmp (Included from) Unbounded m) es
    pub passed : (q : Place) → is_left b from q ≡ true → lookup (is_at (place_cmp q)) es ≡ None → test q ≡ false

  unwanted : (q : Place) → tree.get place_cmp m q ≡ None → test q ≡ false
  unwanted q e = ap (λ o. unwrap_or (option_map (is_wanted w b q) o) false) e

  pub ahead_begun : (r : List (Place × Cell)) → IsRangeOf place_cmp (Included from) Unbounded m r → r ≡ entries_between place_cmp (Included from) Unbounded m.entries → tree.IsOrdered place_cmp m → Ahead r
  ahead_begun r range is ordered = record {
    sorted = subst (λ (l : List (Place × Cell)). IsStrictlySortedBy place_cmp (keys_of l)) (sym is) (subst (IsStrictlySortedBy place_cmp) (sym (keys_filter inside m.entries)) (IsStrictlySortedBy-filter place_cmp inside (tree.keys m) ordered));
    here = range.0;
    passed = λ q left none.
        unwanted q (sym (lookup-filter-keys (is_at (place_cmp q)) inside true (λ k s. at_one q k (and_parts (is_in_block b q) (is_from from q) left).1 s) m.entries) ∙ ap (lookup (is_at (place_cmp q))) (sym is) ∙ none);
  }
    where
      inside : Place → Bool
      inside k = range_contains place_cmp (Included from) Unbounded k

      at_one : (q k : Place) → is_from from q ≡ true → same_place q k ≡ true → inside k ≡ true
      at_one q k f s = subst (λ n. inside n ≡ true) (same_is q k s) (not_above (place_cmp from q) (from_means from q f))

  module _ (es : List (Place × Cell)) (so : Ahead es) (p : Place) (x : Cell) (rest : List (Place × Cell)) (e : es ≡ (p, x) ∷ rest) where
    so_here : Ahead ((p, x) ∷ rest)
    so_here = subst Ahead e so

    pub there : tree.get place_cmp m p ≡ Some x
    there = (All-head (IsEntryInRange place_cmp (Included from) Unbounded m) (p, x) rest so_here.here).1

    pub behind : is_from from p ≡ true
    behind = from_when from p (All-head (IsEntryInRange place_cmp (Included from) Unbounded m) (p, x) rest so_here.here).0.0

    pub before : (q : Place) → is_left b from q ≡ true → is_from p q ≡ false → test q ≡ false
    before q left out = so_here.passed q left (by_test (same_place q p) refl)
      where
        by_test : (t : Bool) → same_place q p ≡ t → cond t (Some x) (lookup (is_at (place_cmp q)) rest) ≡ None
        by_test true s = absurd (both_ways (is_from p q) out (ap (is_from p) (same_is q p s) ∙ from_itself p))
        by_test false s = none_before p q rest (All-after_first place_cmp p (keys_of rest) so_here.sorted) out

    tested : test p ≡ is_wanted w b p x
    tested = ap (λ o. unwrap_or (option_map (is_wanted w b p) o) false) there

    pub ahead_found : (is_in_block b p && is_wanted w b p x) ≡ true → IsFirstPassing test b from p
    ahead_found t =
        let both = and_parts (is_in_block b p) (is_wanted w b p x) t in
        record { passes = tested ∙ both.1; within = both.0; behind = behind; first = before }

    pub ahead_below : (b.row +ℤ b.height) ≤ℤ p.0 → NonePasses test b from
    ahead_below low q left =
        let i = in_block b q (and_parts (is_in_block b q) (is_from from q) left).0 in
        before q left (row_before p q (omega (arith, ints, i.bottom, low)))

    pub ahead_passed : is_in_block b p ≡ false → p.0 <ℤ (b.row +ℤ b.height) → IsPassed test b from p
    ahead_passed out above = record { out = out; above = above; behind = behind; first = before }

    pub ahead_more : (is_in_block b p && is_wanted w b p x) ≡ false → Ahead rest
    ahead_more t = record {
      sorted = sorted_tail place_cmp p (keys_of rest) so_here.sorted;
      here = All-tail (IsEntryInRange place_cmp (Included from) Unbounded m) (p, x) rest so_here.here;
      passed = λ q left none. by_test q left none (same_place q p) refl;
    }
      where
        by_test : (q : Place) → is_left b from q ≡ true → lookup (is_at (place_cmp q)) rest ≡ None → (s : Bool) → same_place q p ≡ s → test q ≡ false
        by_test q left none true s =
            let inside = (and_parts (is_in_block b q) (is_from from q) left).0 in
            ap test (same_is q p s) ∙ tested ∙ not_wanted (is_in_block b p) (is_wanted w b p x) (ap (is_in_block b) (sym (same_is q p s)) ∙ inside) t
          where
            not_wanted : (a c : Bool) → a ≡ true → (a && c) ≡ false → c ≡ false
            not_wanted true c e f = f
            not_wanted false c e f = cc
        by_test q left none false s = so_here.passed q left (ap (λ t. cond t (Some x) (lookup (is_at (place_cmp q)) rest)) s ∙ none)

  pub ahead_end : (es : List (Place × Cell)) → Ahead es → es ≡ [] → NonePasses test b from
  ahead_end es so e q left = so.passed q left (ap (lookup (is_at (place_cmp q))) e)

-- no cell that tells of an array with a cell outside is found from the first place of a block on
pub no_crossing_in : (m : Contents Cell) (b : Block) (at : Place) → at ≡ first_place b → NonePasses (wanted_at wanted.Crossing b (finite.get m)) b at → HasNoCrossing m b
no_crossing_in m b at e none q x inside is =
    ap (λ o. unwrap_or (option_map (is_wanted wanted.Crossing b q) o) false) (sym is)
    ∙ none q (and_from (is_in_block b q) (is_from at q) inside (ap (λ (n : Place). is_from n q) e ∙ first_from b q (in_block b q inside)))
