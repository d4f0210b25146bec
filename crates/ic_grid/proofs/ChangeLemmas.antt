-- The cells of a block are made into others, one after another.
use Rattle.std.proofs.Common.{◌≡◌, ◌∙◌, refl, sym, ap, subst, ℕ, ◌+◌, ◌*◌, ◌<◌, ℤ, pos, Bool, true, false, cond, not, ◌&&◌, ◌⊎◌, inl, inr, Option, Some, None, arith}
use Rattle.std.proofs.lemmas.Bool.{and_parts, and_from, both_ways}
use Rattle.std.proofs.lemmas.Int.{ints}
use Rattle.std.specs.FinMap as finite
use Rattle.std.specs.Option.{IfSome, option_and_then, option_map, unwrap_or}
use Rattle.std.specs.Ordering.{int_eq}
use Rattle.std.specs.Prelude.{int_lt, ◌+ℤ◌, ◌-ℤ◌, ◌≤ℤ◌, ◌<ℤ◌}
use Rattle.std.proofs.Math.IntN.{nat_abs}
use Rattle.std.proofs.Common.{negsuc}
use Rattle.ic_cells.specs.declared.cell.Cell.{Cell}
use Rattle.ic_laws.proofs.core.CellWritten.{place_cmp_total}
use Rattle.ic_grid.proofs.BlockLemmas.{Bounds, area_bounds, same_by_parts}
use Rattle.ic_grid.proofs.ContentsLemmas.{get-remade, get_with, remade_alike, remade_twice, same_contents, same_is}
use Rattle.ic_grid.proofs.WalkLemmas.{InBlock, by_side, from_itself, from_row, in_block}
use Rattle.ic_grid.specs.Block.{Place, first_place, has_next_column, is_area, is_in_block, next_place, same_place}
use Rattle.ic_grid.specs.Change.{changed, changed_at, is_placeholder, remade_where}
use Rattle.ic_grid.specs.Shape.{celled, emptied}
use Rattle.ic_grid.specs.declared.changes.Change.TheVariants as changes
use Rattle.ic_grid.specs.Contents.{Contents, with_or_without}
use Rattle.ic_grid.specs.Walk.{HasNoneIn, IsFirstIn, IsNextIn, is_from, right_of}
use Rattle.ic_grid.specs.declared.block.Block.{Block}

module _ {X : Type 0} (m : Contents X) (p : Place) where
  here : (t : Bool) (o : Option X) (f : X → Option X) (x : X) → (t ≡ true → o ≡ Some x) → cond t (f x) o ≡ option_and_then (λ y. cond t (f y) (Some y)) o
  here true o f x h = sym (ap (option_and_then f) (h refl))
  here false None f x h = refl
  here false (Some y) f x h = refl

  pub one_remade : (f : X → Option X) (x : X) → finite.get m p ≡ Some x → with_or_without m p (f x) ≡ remade_where (λ q. same_place q p) f m
  one_remade f x e =
      same_contents _ _ (λ q. get_with m p (f x) q ∙ here (same_place q p) (finite.get m q) f x (λ t. ap (finite.get m) (same_is q p t) ∙ e) ∙ sym (get-remade _ m q))

  away : (t : Bool) (o : Option X) → cond t None o ≡ option_and_then (λ y. cond t None (Some y)) o
  away true None = refl
  away true (Some y) = refl
  away false None = refl
  away false (Some y) = refl

  pub one_taken : finite.remove m p ≡ remade_where (λ q. same_place q p) (λ x. None) m
  one_taken = same_contents _ _ (λ q. finite.get-remove place_cmp_total m p q ∙ away (same_place q p) (finite.get m q) ∙ sym (get-remade _ m q))

  stays : (t : Bool) (o : Option X) (f : X → Option X) → ((x : X) → t ≡ true → o ≡ Some x → f x ≡ Some x) → o ≡ option_and_then (λ y. cond t (f y) (Some y)) o
  stays t None f h = refl
  stays true (Some x) f h = sym (h x refl refl)
  stays false (Some x) f h = refl

  pub one_stays : (f : X → Option X) → ((x : X) → finite.get m p ≡ Some x → f x ≡ Some x) → m ≡ remade_where (λ q. same_place q p) f m
  one_stays f h = same_contents _ _ (λ q. stays (same_place q p) (finite.get m q) f (λ x t e. h x (ap (finite.get m) (sym (same_is q p t)) ∙ e)) ∙ sym (get-remade _ m q))

  either : (t : Bool) (f g : X → Option X) (x : X) → (t ≡ true → f x ≡ g x) → cond t (f x) (Some x) ≡ cond t (g x) (Some x)
  either true f g x h = h refl
  either false f g x h = refl

  pub one_alike : (f g : X → Option X) → ((x : X) → finite.get m p ≡ Some x → f x ≡ g x) → remade_where (λ q. same_place q p) f m ≡ remade_where (λ q. same_place q p) g m
  one_alike f g h = remade_alike _ _ m (λ q x e. either (same_place q p) f g x (λ t. h x (ap (finite.get m) (sym (same_is q p t)) ∙ e)))

-- the place after one, by rows
pub right_is : (p q : Place) → is_from p q ≡ true → not (is_from (right_of p) q) ≡ (int_eq q.0 p.0 && int_eq q.1 p.1)
unfolding is_from
right_is p q e = grind (arith, ints, e)

right_after : (at p q : Place) → is_from at q ≡ false → is_from at p ≡ true → is_from (right_of p) q ≡ false
unfolding is_from
right_after at p q e f = grind (arith, ints, e, f)

pub first_from : (b : Block) (q : Place) → InBlock b q → is_from (first_place b) q ≡ true
unfolding is_from
first_from b q i = grind (arith, ints, i.top, i.left)

-- the next place by rows: in the same row, or the first of the next one
next_is : (b : Block) (p : Place) (t : Bool) → has_next_column b p ≡ t → next_place b p ≡ cond t (right_of p) (p.0 +ℤ pos 1, b.column)
next_is b p t e = ap (λ u. let n : Place = cond u (right_of p) (p.0 +ℤ pos 1, b.column) in n) e

-- of the places of a block, those behind it are those behind the place to the right
next_row_is : (b : Block) (p q : Place) → InBlock b p → InBlock b q → has_next_column b p ≡ false → is_from (p.0 +ℤ pos 1, b.column) q ≡ is_from (right_of p) q
unfolding is_from
next_row_is b p q i j e = grind (arith, ints, e, i.right, j.left, j.right)

next_from_is : (b : Block) (p q : Place) → InBlock b p → InBlock b q → is_from (next_place b p) q ≡ is_from (right_of p) q
next_from_is b p q i j =
    by_side (has_next_column b p) (λ t. ap (λ (n : Place). is_from n q) (next_is b p true t)) (λ t. ap (λ (n : Place). is_from n q) (next_is b p false t) ∙ next_row_is b p q i j t)

and_true : (a b c : Bool) → a ≡ true → b ≡ c → (a && b) ≡ c
and_true true b c e h = h
and_true false b c e h = cc

module _ {X : Type 0} (m : Contents X) (b : Block) (f : X → Option X) where
  -- a place of the block, before another
  abbrev pub walked : Place → Place → Bool
  walked at q = is_in_block b q && not (is_from at q)

  passes : (t : Bool) (x : X) → t ≡ false → Some x ≡ cond t (f x) (Some x)
  passes true x e = cc
  passes false x e = refl

  pub walk_begun : m ≡ remade_where (walked (first_place b)) f m
  walk_begun =
      same_contents _ _ (λ q. none q (finite.get m q) ∙ sym (get-remade _ m q))
    where
      unwalked : (q : Place) → walked (first_place b) q ≡ false
      unwalked q = by_side (is_in_block b q) (λ t. and_true (is_in_block b q) _ false t (ap not (first_from b q (in_block b q t)))) (λ t. ap (λ s. s && not (is_from (first_place b) q)) t)

      none : (q : Place) (o : Option X) → o ≡ option_and_then (λ x. cond (walked (first_place b) q) (f x) (Some x)) o
      none q None = refl
      none q (Some x) = passes (walked (first_place b) q) x (unwalked q)

  module _ (at : Place) (cells : Contents X) (so_far : cells ≡ remade_where (walked at) f m) where
    unwalked_there : (q : Place) (x : X) → finite.get m q ≡ Some x → walked at q ≡ false → finite.get cells q ≡ Some x
    unwalked_there q x e w =
        ap (λ (c : Contents X). finite.get c q) so_far ∙ get-remade _ m q ∙ ap (option_and_then (λ y. cond (walked at q) (f y) (Some y))) e ∙ sym (passes (walked at q) x w)

    last : (q : Place) (x : X) (t u : Bool) → t ≡ u → cond t (f x) (Some x) ≡ cond u (f x) (Some x)
    last q x t u e = ap (λ s. cond s (f x) (Some x)) e

    pub walk_done : HasNoneIn cells b at → cells ≡ remade_where (is_in_block b) f m
    walk_done none = so_far ∙ remade_alike _ _ m (λ q x e. last q x (walked at q) (is_in_block b q) (all_walked q x e))
      where
        all_walked : (q : Place) (x : X) → finite.get m q ≡ Some x → walked at q ≡ is_in_block b q
        all_walked q x e = by_side (is_in_block b q) inside (λ t. ap (λ s. s && not (is_from at q)) t ∙ sym t)
          where
            inside : is_in_block b q ≡ true → walked at q ≡ is_in_block b q
            inside t = by_side (is_from at q) left (λ s. and_true (is_in_block b q) _ true t (ap not s) ∙ sym t)
              where
                left : is_from at q ≡ true → walked at q ≡ is_in_block b q
                left s =
                    let w : walked at q ≡ false = and_true (is_in_block b q) _ false t (ap not s) in
                    let never : None ≡ Some x = sym (none q (and_from (is_in_block b q) (is_from at q) t s)) ∙ unwalked_there q x e w in
                    cc

    module _ (p : Place) (next : IsNextIn cells b at p) (after : Contents X) (is : after ≡ remade_where (λ q. same_place q p) f cells) where
      twice : (w s v : Bool) (x : X) → (w ≡ true → s ≡ false) → (w ≡ true → v ≡ true) → (w ≡ false → v ≡ s) → option_and_then (λ y. cond s (f y) (Some y)) (cond w (f x) (Some x)) ≡ cond v (f x) (Some x)
      twice true s v x h k l =
          ap (λ t. option_and_then (λ y. cond t (f y) (Some y)) (f x)) (h refl) ∙ same (f x) ∙ ap (λ t. cond t (f x) (Some x)) (sym (k refl))
        where
          same : (o : Option X) → option_and_then (λ (y : X). Some y) o ≡ o
          same None = refl
          same (Some y) = refl
      twice false s v x h k l = ap (λ t. cond t (f x) (Some x)) (sym (l refl))

      apart : (q : Place) → walked at q ≡ true → same_place q p ≡ false
      apart q w =
          by_side (same_place q p)
          (λ t. absurd (both_ways (is_from at q) (negated (is_from at q) (and_parts (is_in_block b q) (not (is_from at q)) w).1) (ap (is_from at) (same_is q p t) ∙ next.behind)))
          (λ t. t)
        where
          negated : (s : Bool) → not s ≡ true → s ≡ false
          negated true e = cc
          negated false e = refl

      still : (q : Place) → walked at q ≡ true → walked (right_of p) q ≡ true
      still q w =
          let both = and_parts (is_in_block b q) (not (is_from at q)) w in
          and_from (is_in_block b q) (not (is_from (right_of p) q)) both.0 (ap not (right_after at p q (negated (is_from at q) both.1) next.behind))
        where
          negated : (s : Bool) → not s ≡ true → s ≡ false
          negated true e = cc
          negated false e = refl

      new : (q : Place) (x : X) → finite.get m q ≡ Some x → walked at q ≡ false → walked (right_of p) q ≡ same_place q p
      new q x e w = by_side (is_in_block b q) inside outside
        where
          outside : is_in_block b q ≡ false → walked (right_of p) q ≡ same_place q p
          outside t =
              ap (λ s. s && not (is_from (right_of p) q)) t
              ∙ sym (by_side (same_place q p) (λ s. absurd (both_ways (is_in_block b q) t (ap (is_in_block b) (same_is q p s) ∙ next.within))) (λ s. s))

          inside : is_in_block b q ≡ true → walked (right_of p) q ≡ same_place q p
          inside t = by_side (is_from at q) left (λ s. absurd (both_ways (walked at q) w (and_from (is_in_block b q) (not (is_from at q)) t (ap not s))))
            where
              left : is_from at q ≡ true → walked (right_of p) q ≡ same_place q p
              left s =
                  by_side (is_from p q)
                  (λ u. and_true (is_in_block b q) _ (same_place q p) t (right_is p q u ∙ sym (same_by_parts q p)))
                  (λ u. let never : None ≡ Some x = sym (next.first q (and_from (is_in_block b q) (is_from at q) t s) u) ∙ unwalked_there q x e w in cc)

      pub walk_more : after ≡ remade_where (walked (right_of p)) f m
      walk_more =
          is ∙ ap (remade_where (λ q. same_place q p) f) so_far
          ∙ remade_twice _ _ _ m (λ q x e. twice (walked at q) (same_place q p) (walked (right_of p) q) x (apart q) (still q) (new q x e))

-- how far a place of a block is from the end
abbrev pub far : Block → Place → ℕ
far b at = nat_abs ((b.row +ℤ b.height) -ℤ at.0) * 16386 + nat_abs (pos 16386 -ℤ at.1)

pub abs_is : (z : ℤ) → pos 0 ≤ℤ z → pos (nat_abs z) ≡ z
abs_is (pos n) h = refl
abs_is (negsuc n) h = absurd (omega (arith, ints, h))

-- what is left of rows and columns is less where a row was left, or a column of the same row
pub fewer : (rows columns less_rows less_columns : ℕ) → (less_rows < rows) ⊎ ((less_rows ≡ rows) × (less_columns < columns)) → less_columns < 16386 → less_rows * 16386 + less_columns < rows * 16386 + columns
fewer rows columns less_rows less_columns (inl i) h = omega arith
fewer rows columns less_rows less_columns (inr i) h = let e = i.0 in let f = i.1 in omega arith

from_parts : (at p : Place) → is_from at p ≡ true → (at.0 <ℤ p.0) ⊎ ((at.0 ≡ p.0) × (at.1 ≤ℤ p.1))
unfolding is_from
from_parts at p e = by_side (int_lt at.0 p.0) (λ t. inl (grind (arith, ints, t))) (λ t. inr (grind (arith, ints, t, e), grind (arith, ints, t, e)))

pub less_abs : (a b : ℤ) → pos 0 ≤ℤ a → a <ℤ b → nat_abs a < nat_abs b
less_abs a b h k =
    let one = abs_is a h in
    let two = abs_is b (omega (arith, ints, h, k)) in
    omega (arith, ints, one, two, k)

pub small_abs : (a : ℤ) → pos 0 ≤ℤ a → a <ℤ pos 16386 → nat_abs a < 16386
small_abs a h k = let one = abs_is a h in omega (arith, ints, one, k)

pub nearer : (b : Block) (at p : Place) → is_area b ≡ true → b.column ≤ℤ at.1 → is_from at p ≡ true → is_in_block b p ≡ true → far b (right_of p) < far b at
nearer b at p area least after within =
    let s = area_bounds b area in
    let k = in_block b p within in
    fewer (nat_abs ((b.row +ℤ b.height) -ℤ at.0)) (nat_abs (pos 16386 -ℤ at.1)) (nat_abs ((b.row +ℤ b.height) -ℤ p.0)) (nat_abs (pos 16386 -ℤ (p.1 +ℤ pos 1)))
    (of_case s k (from_parts at p after)) (small_abs (pos 16386 -ℤ (p.1 +ℤ pos 1)) (omega (arith, ints, s.last_column, k.right)) (omega (arith, ints, s.column, k.left)))
  where
    of_case : Bounds b → InBlock b p → (at.0 <ℤ p.0) ⊎ ((at.0 ≡ p.0) × (at.1 ≤ℤ p.1))
        → (nat_abs ((b.row +ℤ b.height) -ℤ p.0) < nat_abs ((b.row +ℤ b.height) -ℤ at.0)) ⊎ ((nat_abs ((b.row +ℤ b.height) -ℤ p.0) ≡ nat_abs ((b.row +ℤ b.height) -ℤ at.0)) × (nat_abs (pos 16386 -ℤ (p.1 +ℤ pos 1)) < nat_abs (pos 16386 -ℤ at.1)))
    of_case s k (inl i) = inl (less_abs ((b.row +ℤ b.height) -ℤ p.0) ((b.row +ℤ b.height) -ℤ at.0) (omega (arith, ints, k.bottom)) (omega (arith, ints, i)))
    of_case s k (inr i) = inr (ap (λ n. nat_abs ((b.row +ℤ b.height) -ℤ n)) (sym i.0), less_abs (pos 16386 -ℤ (p.1 +ℤ pos 1)) (pos 16386 -ℤ at.1) (omega (arith, ints, s.last_column, k.right)) (omega (arith, ints, i.1)))

-- what becomes of one cell ----

pub emptied_there : (m : Contents Cell) (k p : Place) (x y : Cell) → k ≡ p → Some x ≡ finite.get m p → y ≡ emptied celled x → finite.insert m k y ≡ changed_at p changes.Empty m
emptied_there m k p x y same e f =
    ap (λ (q : Place). finite.insert m q y) same ∙ ap (finite.insert m p) f ∙ one_remade m p (changed changes.Empty) x (sym e)

pub none_emptied : (m : Contents Cell) (p : Place) → None ≡ finite.get m p → m ≡ changed_at p changes.Empty m
none_emptied m p e = one_stays m p (changed changes.Empty) (λ x is. let never : None ≡ Some x = e ∙ is in cc)

module _ (m : Contents Cell) (p : Place) (t : Bool) (is : t ≡ unwrap_or (option_map is_placeholder (finite.get m p)) false) where
  told : (x : Cell) → finite.get m p ≡ Some x → is_placeholder x ≡ t
  told x e = sym (is ∙ ap (λ o. unwrap_or (option_map is_placeholder o) false) e)

  taken_if : (b : Bool) (x : Cell) → b ≡ true → None ≡ cond b None (Some x)
  taken_if true x e = refl
  taken_if false x e = cc

  emptied_if : (b : Bool) (x y : Cell) → b ≡ true → Some y ≡ cond b (Some y) (Some x)
  emptied_if true x y e = refl
  emptied_if false x y e = cc

  kept_if : (b : Bool) (x : Cell) (o : Option Cell) → b ≡ false → cond b o (Some x) ≡ Some x
  kept_if true x o e = cc
  kept_if false x o e = refl

  pub placeholder_taken : t ≡ true → changed_at p changes.Take m ≡ changed_at p changes.TakePlaceholder m
  placeholder_taken e = one_alike m p (changed changes.Take) (changed changes.TakePlaceholder) (λ x is. taken_if (is_placeholder x) x (told x is ∙ e))

  pub placeholder_emptied : t ≡ true → changed_at p changes.Empty m ≡ changed_at p changes.EmptyPlaceholder m
  placeholder_emptied e = one_alike m p (changed changes.Empty) (changed changes.EmptyPlaceholder) (λ x is. emptied_if (is_placeholder x) x (emptied celled x) (told x is ∙ e))

  pub other_left : t ≡ false → m ≡ changed_at p changes.TakePlaceholder m
  other_left e = one_stays m p (changed changes.TakePlaceholder) (λ x is. kept_if (is_placeholder x) x None (told x is ∙ e))

  pub other_kept : t ≡ false → m ≡ changed_at p changes.EmptyPlaceholder m
  other_kept e = one_stays m p (changed changes.EmptyPlaceholder) (λ x is. kept_if (is_placeholder x) x (Some (emptied celled x)) (told x is ∙ e))

-- the same for places that a call answered
pub walk_begun_at : {X : Type 0} (m : Contents X) (b : Block) (f : X → Option X) (at : Place) → at ≡ first_place b → m ≡ remade_where (walked m b f at) f m
walk_begun_at m b f at e = subst (λ (p : Place). m ≡ remade_where (walked m b f p) f m) (sym e) (walk_begun m b f)

pub walk_more_at : {X : Type 0} (m : Contents X) (b : Block) (f : X → Option X) (at : Place) (cells : Contents X) → cells ≡ remade_where (walked m b f at) f m → (p : Place) → IsNextIn cells b at p
    → (after : Contents X) → after ≡ remade_where (λ q. same_place q p) f cells → (next : Place) → next ≡ next_place b p → after ≡ remade_where (walked m b f next) f m
walk_more_at m b f at cells so_far p first after is next e =
    subst (λ (n : Place). after ≡ remade_where (walked m b f n) f m) (sym e)
    (walk_more m b f at cells so_far p first after is ∙ remade_alike _ _ m (λ q x there. ap (λ t. cond t (f x) (Some x)) (walked_next q)))
  where
    walked_next : (q : Place) → walked m b f (right_of p) q ≡ walked m b f (next_place b p) q
    walked_next q =
        by_side (is_in_block b q)
        (λ t. ap (λ s. is_in_block b q && not s) (sym (next_from_is b p q (in_block b p first.within) (in_block b q t))))
        (λ t. ap (λ s. s && not (is_from (right_of p) q)) t ∙ sym (ap (λ s. s && not (is_from (next_place b p) q)) t))

pub nearer_at : (b : Block) (at p : Place) → is_area b ≡ true → b.column ≤ℤ at.1 → is_from at p ≡ true → is_in_block b p ≡ true → (next : Place) → next ≡ right_of p → far b next < far b at
nearer_at b at p area least after within next e = subst (λ (n : Place). far b n < far b at) (sym e) (nearer b at p area least after within)

pub step_bounds : (b : Block) (p : Place) → is_in_block b p ≡ true → (next : Place) → next ≡ right_of p → (b.row ≤ℤ next.0) × (b.column ≤ℤ next.1)
step_bounds b p within next e =
    let i = in_block b p within in
    subst (λ (n : Place). (b.row ≤ℤ n.0) × (b.column ≤ℤ n.1)) (sym e) (i.top, omega (arith, ints, i.left))

pub first_bounds : (b : Block) (at : Place) → at ≡ first_place b → (b.row ≤ℤ at.0) × (b.column ≤ℤ at.1)
first_bounds b at e = subst (λ (n : Place). (b.row ≤ℤ n.0) × (b.column ≤ℤ n.1)) (sym e) (omega (arith, ints), omega (arith, ints))

pub next_bounds : (b : Block) (p : Place) → is_in_block b p ≡ true → (next : Place) → next ≡ next_place b p → (b.row ≤ℤ next.0) × (b.column ≤ℤ next.1)
next_bounds b p within next e =
    let i = in_block b p within in
    by_side (has_next_column b p)
    (λ t. subst (λ (n : Place). (b.row ≤ℤ n.0) × (b.column ≤ℤ n.1)) (sym (e ∙ next_is b p true t)) (i.top, omega (arith, ints, i.left)))
    (λ t. subst (λ (n : Place). (b.row ≤ℤ n.0) × (b.column ≤ℤ n.1)) (sym (e ∙ next_is b p false t)) (omega (arith, ints, i.top), omega (arith, ints)))

pub next_nearer_at : (b : Block) (at p : Place) → is_area b ≡ true → b.column ≤ℤ at.1 → is_from at p ≡ true → is_in_block b p ≡ true → (next : Place) → next ≡ next_place b p → far b next < far b at
next_nearer_at b at p area least after within next e =
    by_side (has_next_column b p) (λ t. nearer_at b at p area least after within next (e ∙ next_is b p true t))
    (λ t. subst (λ (n : Place). far b n < far b at) (sym (e ∙ next_is b p false t)) below)
  where
    below : far b (p.0 +ℤ pos 1, b.column) < far b at
    below =
        let s = area_bounds b area in
        let k = in_block b p within in
        let low = from_row at p after in
        fewer (nat_abs ((b.row +ℤ b.height) -ℤ at.0)) (nat_abs (pos 16386 -ℤ at.1)) (nat_abs ((b.row +ℤ b.height) -ℤ (p.0 +ℤ pos 1))) (nat_abs (pos 16386 -ℤ b.column))
        (inl (less_abs ((b.row +ℤ b.height) -ℤ (p.0 +ℤ pos 1)) ((b.row +ℤ b.height) -ℤ at.0) (omega (arith, ints, k.bottom)) (omega (arith, ints, low))))
        (small_abs (pos 16386 -ℤ b.column) (omega (arith, ints, s.last_column, s.wide)) (omega (arith, ints, s.column)))

-- a place with a cell, before which none stands, and a place itself, are next
pub some_next : {X : Type 0} (m : Contents X) (b : Block) (at : Place) (r : Option Place) → IfSome r (IsFirstIn m b at) → IfSome r (IsNextIn m b at)
some_next m b at None h = h
some_next m b at (Some p) h = record { within = h.within; behind = h.behind; first = h.first }

pub next_itself : {X : Type 0} (m : Contents X) (b : Block) (at : Place) → is_in_block b at ≡ true → IsNextIn m b at at
next_itself m b at within = record {
  within = within;
  behind = from_itself at;
  first = λ q left before. absurd (both_ways (is_from at q) before (and_parts (is_in_block b q) (is_from at q) left).1);
}
