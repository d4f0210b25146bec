-- The places of a block by rows: how many are left from one on, and that each comes once.
use Rattle.std.proofs.Common.{◌≡◌, ◌∙◌, refl, sym, ap, subst, ℕ, zero, suc, ◌+◌, ◌*◌, ◌<◌, ℤ, pos, Bool, true, false, cond, ◌&&◌, List, [], ◌∷◌, length, Some, IsSome, arith}
use Rattle.std.proofs.lemmas.Bool.{and_parts, and_from, both_ways}
use Rattle.std.proofs.lemmas.Int.{ints}
use Rattle.std.proofs.Math.IntN.{nat_abs}
use Rattle.std.specs.FinMap as finite
use Rattle.std.specs.Ordering.{int_eq}
use Rattle.std.specs.Prelude.{int_le, int_lt, ◌+ℤ◌, ◌≤ℤ◌, ◌<ℤ◌}
use Rattle.ic_laws.proofs.core.CellWritten.{place_cmp_total}
use Rattle.ic_laws.specs.Position.{is_column, is_row}
use Rattle.ic_laws.specs.declared.reference.TheConstants.{LAST_COLUMN, LAST_ROW}
use Rattle.ic_grid.proofs.BlockLemmas.{area_bounds, same_by_parts}
use Rattle.ic_grid.proofs.ChangeLemmas.{abs_is, first_from}
use Rattle.ic_grid.proofs.ContentsLemmas.{same_contents, same_is}
use Rattle.ic_grid.proofs.WalkLemmas.{InBlock, by_side, from_itself, in_block}
use Rattle.ic_grid.specs.Block.{Place, first_place, is_area, is_between, is_in_block, is_in_sheet, next_place, same_place}
use Rattle.ic_grid.specs.Contents.{Contents}
use Rattle.ic_grid.specs.Rows.{IsFull, place_count, placed}
use Rattle.ic_grid.specs.Walk.{is_from, is_left}
use Rattle.ic_grid.specs.declared.block.Block.{Block}

-- so many places of a block are left from one on: r rows, but for the first c of w columns
pub record IsAt (b : Block) (q : Place) (n : ℕ) : Type 0 where
  pub w : ℕ
  pub r : ℕ
  pub c : ℕ
  pub width : b.width ≡ pos w
  pub rows : (b.row +ℤ b.height) ≡ (q.0 +ℤ pos r)
  pub columns : q.1 ≡ (b.column +ℤ pos c)
  pub fits : c < w
  pub top : b.row ≤ℤ q.0
  pub count : n + c ≡ r * w

span_true : (first last n : ℤ) → first ≤ℤ n → n <ℤ last → is_between first last n ≡ true
unfolding is_between
span_true first last n h k = grind (arith, ints, h, k)

module _ (b : Block) where
  from_bounds : (q : Place) → b.row ≤ℤ q.0 → q.0 <ℤ (b.row +ℤ b.height) → b.column ≤ℤ q.1 → q.1 <ℤ (b.column +ℤ b.width) → is_in_block b q ≡ true
  from_bounds q one two three four = and_from _ _ (span_true b.row (b.row +ℤ b.height) q.0 one two) (span_true b.column (b.column +ℤ b.width) q.1 three four)

  pub at_first : is_area b ≡ true → IsAt b (first_place b) (place_count b)
  at_first area =
      let s = area_bounds b area in
      let wide = abs_is b.width (omega (arith, ints, s.wide)) in
      let high = abs_is b.height (omega (arith, ints, s.high)) in
      record {
        w = nat_abs b.width;
        r = nat_abs b.height;
        c = 0;
        width = sym wide;
        rows = ap (λ n. b.row +ℤ n) (sym high);
        columns = omega (arith, ints);
        fits = omega (arith, ints, wide, s.wide);
        top = omega (arith, ints);
        count = omega arith;
      }

  module _ (q : Place) (n : ℕ) (at : IsAt b q (suc n)) where
    some_row : (r : ℕ) → suc n + at.c ≡ r * at.w → (k : ℕ) × (r ≡ suc k)
    some_row zero e = absurd (omega arith)
    some_row (suc k) e = (k, refl)

    pub at_in : is_in_block b q ≡ true
    at_in =
        let k = some_row at.r at.count in
        from_bounds q at.top (omega (arith, ints, at.rows, k.1)) (omega (arith, ints, at.columns)) (omega (arith, ints, at.columns, at.width, at.fits))

    new_row : (k : ℕ) → at.r ≡ suc k → suc at.c ≡ at.w → n + 0 ≡ k * at.w
    new_row k e f =
        let rows : suc n + at.c ≡ suc k * at.w = at.count ∙ ap (λ r. r * at.w) e in
        omega (arith, rows, f)

    pub at_next : IsAt b (next_place b q) n
    at_next = by_side (int_lt (q.1 +ℤ pos 1) (b.column +ℤ b.width)) same another
      where
        same : int_lt (q.1 +ℤ pos 1) (b.column +ℤ b.width) ≡ true → IsAt b (next_place b q) n
        same t = subst (λ (p : Place). IsAt b p n) (sym (ap (λ u. let p : Place = cond u (q.0, q.1 +ℤ pos 1) (q.0 +ℤ pos 1, b.column) in p) t)) (record {
          w = at.w;
          r = at.r;
          c = suc at.c;
          width = at.width;
          rows = at.rows;
          columns = omega (arith, ints, at.columns);
          fits = grind (arith, ints, t, at.columns, at.width);
          top = at.top;
          count = omega (arith, at.count);
        })

        another : int_lt (q.1 +ℤ pos 1) (b.column +ℤ b.width) ≡ false → IsAt b (next_place b q) n
        another t =
            let k = some_row at.r at.count in
            let last : suc at.c ≡ at.w = grind (arith, ints, t, at.columns, at.width, at.fits) in
            subst (λ (p : Place). IsAt b p n) (sym (ap (λ u. let p : Place = cond u (q.0, q.1 +ℤ pos 1) (q.0 +ℤ pos 1, b.column) in p) t)) (record {
              w = at.w;
              r = k.0;
              c = 0;
              width = at.width;
              rows = omega (arith, ints, at.rows, k.1);
              columns = omega (arith, ints);
              fits = omega (arith, at.fits);
              top = omega (arith, ints, at.top);
              count = new_row k.0 k.1 last;
            })

    -- what is left from the next place on, and what is left but for this one
    later : (p : Place) → InBlock b p → (u : Bool) → int_lt (q.1 +ℤ pos 1) (b.column +ℤ b.width) ≡ u → is_from (let s : Place = cond u (q.0, q.1 +ℤ pos 1) (q.0 +ℤ pos 1, b.column) in s) p ≡ true → is_from q p ≡ true
    unfolding is_from
    later p i true e h = grind (arith, ints, h, e)
    later p i false e h = grind (arith, ints, h, e)

    not_this : (u : Bool) → int_lt (q.1 +ℤ pos 1) (b.column +ℤ b.width) ≡ u → is_from (let s : Place = cond u (q.0, q.1 +ℤ pos 1) (q.0 +ℤ pos 1, b.column) in s) q ≡ false
    unfolding is_from
    not_this true e = grind (arith, ints, e)
    not_this false e = grind (arith, ints, e)

    other : (p : Place) → InBlock b p → (u : Bool) → int_lt (q.1 +ℤ pos 1) (b.column +ℤ b.width) ≡ u → is_from q p ≡ true → (int_eq p.0 q.0 && int_eq p.1 q.1) ≡ false → is_from (let s : Place = cond u (q.0, q.1 +ℤ pos 1) (q.0 +ℤ pos 1, b.column) in s) p ≡ true
    unfolding is_from
    other p i true e h k = grind (arith, ints, h, e, k)
    other p i false e h k = grind (arith, ints, h, e, k, i.left, i.right)

    pub left_later : (p : Place) → is_left b (next_place b q) p ≡ true → is_left b q p ≡ true
    left_later p e =
        let both = and_parts (is_in_block b p) (is_from (next_place b q) p) e in
        and_from (is_in_block b p) (is_from q p) both.0 (later p (in_block b p both.0) (int_lt (q.1 +ℤ pos 1) (b.column +ℤ b.width)) refl both.1)

    pub left_other : (p : Place) → is_left b q p ≡ true → same_place p q ≡ false → is_left b (next_place b q) p ≡ true
    left_other p e s =
        let both = and_parts (is_in_block b p) (is_from q p) e in
        and_from (is_in_block b p) (is_from (next_place b q) p) both.0
        (other p (in_block b p both.0) (int_lt (q.1 +ℤ pos 1) (b.column +ℤ b.width)) refl both.1 (sym (same_by_parts p q) ∙ s))

    pub this_done : is_left b (next_place b q) q ≡ false
    this_done =
        by_side (is_left b (next_place b q) q)
        (λ t. absurd (both_ways (is_from (next_place b q) q) (not_this (int_lt (q.1 +ℤ pos 1) (b.column +ℤ b.width)) refl) (and_parts (is_in_block b q) (is_from (next_place b q) q) t).1))
        (λ t. t)

    pub left_apart : (p : Place) → is_left b (next_place b q) p ≡ true → same_place p q ≡ false
    left_apart p left = by_side (same_place p q) (λ s. absurd (both_ways (is_left b (next_place b q) q) this_done (ap (is_left b (next_place b q)) (sym (same_is p q s)) ∙ left))) (λ s. s)

  no_row : (w r c : ℕ) → 0 + c ≡ r * w → c < w → r ≡ 0
  no_row w zero c e h = refl
  no_row w (suc r) c e h = absurd (omega arith)

  beyond : (q p : Place) → InBlock b p → (b.row +ℤ b.height) ≡ q.0 → is_from q p ≡ false
  unfolding is_from
  beyond q p i e = let low = i.bottom in grind (arith, ints, e, low)

  pub none_at_end : (q : Place) → IsAt b q 0 → (p : Place) → is_left b q p ≡ false
  none_at_end q at p =
      by_side (is_left b q p)
      (λ t.
      let both = and_parts (is_in_block b p) (is_from q p) t in
      let none = no_row at.w at.r at.c at.count at.fits in
      absurd (both_ways (is_from q p) (beyond q p (in_block b p both.0) (omega (arith, ints, at.rows, none))) both.1))
      (λ t. t)

  pub first_left : (p : Place) → is_left b (first_place b) p ≡ is_in_block b p
  first_left p = by_side (is_in_block b p) (λ t. and_from (is_in_block b p) (is_from (first_place b) p) t (first_from b p (in_block b p t)) ∙ sym t) (λ t. ap (λ s. s && is_from (first_place b) p) t ∙ sym t)

  module _ {X : Type 0} where
    -- what is placed doesn't depend on what stood at the places before
    pub placed_over : (xs : List X) (q : Place) → IsAt b q (length xs) → (m n : Contents X) → ((p : Place) → is_left b q p ≡ false → finite.get m p ≡ finite.get n p) → placed b q xs m ≡ placed b q xs n
    placed_over [] q at m n h = same_contents m n (λ p. h p (none_at_end q at p))
    placed_over (x ∷ xs) q at m n h =
        placed_over xs (next_place b q) (at_next q (length xs) at) (finite.insert m q x) (finite.insert n q x) (λ p out.
        finite.get-insert place_cmp_total m q x p
        ∙ by_side (same_place p q) (λ s. ap (λ t. cond t (Some x) (finite.get m p)) s ∙ sym (ap (λ t. cond t (Some x) (finite.get n p)) s))
        (λ s. ap (λ t. cond t (Some x) (finite.get m p)) s
        ∙ h p (by_side (is_left b q p) (λ t. absurd (both_ways (is_left b (next_place b q) p) out (left_other q (length xs) at p t s))) (λ t. t))
        ∙ sym (ap (λ t. cond t (Some x) (finite.get n p)) s))
        ∙ sym (finite.get-insert place_cmp_total n q x p))

    -- elsewhere all stays
    pub placed_away : (xs : List X) (q : Place) → IsAt b q (length xs) → (m : Contents X) (p : Place) → is_left b q p ≡ false → finite.get (placed b q xs m) p ≡ finite.get m p
    placed_away [] q at m p out = refl
    placed_away (x ∷ xs) q at m p out =
        placed_away xs (next_place b q) (at_next q (length xs) at) (finite.insert m q x) p
        (by_side (is_left b (next_place b q) p) (λ t. absurd (both_ways (is_left b q p) out (left_later q (length xs) at p t))) (λ t. t))
        ∙ finite.get-insert place_cmp_total m q x p ∙ ap (λ t. cond t (Some x) (finite.get m p)) (apart (same_place p q) refl)
      where
        apart : (s : Bool) → same_place p q ≡ s → same_place p q ≡ false
        apart true s = absurd (both_ways (is_left b q p) out (ap (is_left b q) (same_is p q s) ∙ and_from (is_in_block b q) (is_from q q) (at_in q (length xs) at) (from_itself q)))
        apart false s = s

row_in : (n first last : ℤ) → pos 1 ≤ℤ first → first ≤ℤ n → n <ℤ last → last ≤ℤ pos 1048577 → is_row n ≡ true
row_in n first last a b c d = and_from (int_le (pos 1) n) (int_le n LAST_ROW) (grind (arith, ints, a, b)) (grind (arith, ints, c, d))

column_in : (n first last : ℤ) → pos 1 ≤ℤ first → first ≤ℤ n → n <ℤ last → last ≤ℤ pos 16385 → is_column n ≡ true
column_in n first last a b c d = and_from (int_le (pos 1) n) (int_le n LAST_COLUMN) (grind (arith, ints, a, b)) (grind (arith, ints, c, d))

-- the places of an area are places of the sheet
pub area_inside : (b : Block) → is_area b ≡ true → (p : Place) → is_in_block b p ≡ true → is_in_sheet p ≡ true
area_inside b area p within =
    let s = area_bounds b area in
    let i = in_block b p within in
    and_from (is_row p.0) (is_column p.1) (row_in p.0 b.row (b.row +ℤ b.height) s.row i.top i.bottom s.last_row) (column_in p.1 b.column (b.column +ℤ b.width) s.column i.left i.right s.last_column)

-- the same for what calls answered
pub begun_at : (b : Block) (at : Place) → at ≡ first_place b → is_area b ≡ true → (n : ℕ) → n ≡ place_count b → IsAt b at n
begun_at b at e area n f = subst (λ (k : ℕ). IsAt b at k) (sym f) (subst (λ (p : Place). IsAt b p (place_count b)) (sym e) (at_first b area))

pub item_at : {X : Type 0} (b : Block) (q : Place) (rest more : List X) (x : X) → IsAt b q (length rest) → rest ≡ x ∷ more → IsAt b q (suc (length more))
item_at b q rest more x at e = subst (λ (n : ℕ). IsAt b q n) (ap length e) at

pub next_at : {X : Type 0} (b : Block) (q : Place) (rest more : List X) (x : X) → IsAt b q (length rest) → rest ≡ x ∷ more → (next : Place) → next ≡ next_place b q → IsAt b next (length more)
next_at b q rest more x at e next is = subst (λ (p : Place). IsAt b p (length more)) (sym is) (at_next b q (length more) (item_at b q rest more x at e))

pub full_more : {X : Type 0} (b : Block) (m after : Contents X) (q : Place) (x : X) → after ≡ finite.insert m q x → IsFull b m → IsFull b after
full_more {X = X} b m after q x e full p within =
    subst (λ o. IsSome o) (sym (ap (λ (n : Contents X). finite.get n p) e ∙ finite.get-insert place_cmp_total m q x p)) (either (same_place p q))
  where
    either : (t : Bool) → IsSome (cond t (Some x) (finite.get m p))
    either true = refl
    either false = full p within

pub placed_more : {X : Type 0} (b : Block) (q : Place) (rest more : List X) (x : X) (m after whole : Contents X) → placed b q rest m ≡ whole → rest ≡ x ∷ more → after ≡ finite.insert m q x → (next : Place) → next ≡ next_place b q → placed b next more after ≡ whole
placed_more b q rest more x m after whole h e is next n =
    ap (λ (p : Place). placed b p more after) n ∙ ap (placed b (next_place b q) more) is ∙ sym (ap (λ xs. placed b q xs m) e) ∙ h

pub placed_begun : {X : Type 0} (b : Block) (at : Place) (items xs : List X) (m : Contents X) → at ≡ first_place b → items ≡ xs → placed b at items m ≡ placed b (first_place b) xs m
placed_begun b at items xs m e f = ap (λ (p : Place). placed b p items m) e ∙ ap (λ ys. placed b (first_place b) ys m) f

pub at_bounds : (b : Block) (q : Place) (n : ℕ) → is_area b ≡ true → IsAt b q (suc n) → (q.0 <ℤ pos 1048577) × (q.1 <ℤ pos 16385)
at_bounds b q n area at =
    let s = area_bounds b area in
    let i = in_block b q (at_in b q n at) in
    (omega (arith, ints, s.last_row, i.bottom), omega (arith, ints, s.last_column, i.right))
