-- What stands at places is changed, place by place; and the cells of a spill are emptied so.
use Rattle.std.proofs.Common.{◌≡◌, ◌∙◌, refl, sym, ap, ℕ, ℤ, pos, Bool, true, false, cond, ◌||◌, Option, Some, None}
use Rattle.std.specs.FinMap as finite
use Rattle.std.specs.Option.{option_and_then}
use Rattle.std.specs.Prelude.{◌+ℤ◌, ◌≤ℤ◌}
use Rattle.ic_laws.proofs.core.CellWritten.{place_cmp_total}
use Rattle.ic_grid.proofs.ContentsLemmas.{get-remade, remade_twice, same_contents, same_is}
use Rattle.ic_grid.proofs.BlockLemmas.{column_more, no_columns, no_rows, row_more}
use Rattle.ic_grid.specs.Block.{Place, block_at, is_in_lines, same_place}
use Rattle.ic_grid.specs.Contents.{Contents, changed_where}
use Rattle.ic_grid.specs.Prepare.{anchor_reset, unspilled}
use Rattle.ic_grid.specs.Shape.{celled}
use Rattle.ic_grid.specs.Value.{formula_array}
use Rattle.ic_grid.specs.declared.block.Array.{Array}
use Rattle.ic_cells.specs.declared.value.FormulaValue.TheVariants as formulas
use Rattle.ic_cells.specs.declared.value.FormulaValue.{FormulaValue}
use Rattle.ic_cells.specs.declared.cell.Cell.{Cell}
use Rattle.ic_cells.specs.declared.cell.Cell.TheVariants as cells

module _ {X : Type 0} where
  kept : (o : Option X) (g : X → X) → ((x : X) → o ≡ Some x → g x ≡ x) → option_and_then (λ x. Some (g x)) o ≡ o
  kept None g h = refl
  kept (Some x) g h = ap Some (h x refl)

  -- where the change leaves all as it is, all stays
  pub none_changed : (t : Place → Bool) (f : X → X) (m : Contents X) → ((q : Place) (x : X) → finite.get m q ≡ Some x → cond (t q) (f x) x ≡ x) → changed_where t f m ≡ m
  none_changed t f m h = same_contents _ _ (λ q. get-remade _ m q ∙ kept (finite.get m q) (λ x. cond (t q) (f x) x) (h q))

  unpassed : (b : Bool) (x y : X) → b ≡ false → cond b x y ≡ y
  unpassed true x y e = cc
  unpassed false x y e = refl

  pub nowhere : (t : Place → Bool) (f : X → X) (m : Contents X) → ((q : Place) → t q ≡ false) → m ≡ changed_where t f m
  nowhere t f m none = sym (none_changed t f m (λ q x e. unpassed (t q) (f x) x (none q)))

  twice : (a b : Bool) (f : X → X) (x : X) → ((y : X) → f (f y) ≡ f y) → cond b (f (cond a (f x) x)) (cond a (f x) x) ≡ cond (a || b) (f x) x
  twice true true f x same = same x
  twice true false f x same = refl
  twice false true f x same = refl
  twice false false f x same = refl

  -- changed at some places and then at others, it is changed at both; a change made twice is one
  pub changed_more : (t u v : Place → Bool) (f : X → X) (m : Contents X) → ((y : X) → f (f y) ≡ f y) → ((q : Place) → v q ≡ (t q || u q)) → changed_where u f (changed_where t f m) ≡ changed_where v f m
  changed_more t u v f m same both =
      remade_twice _ _ _ m (λ q x e. ap Some (twice (t q) (u q) f x same ∙ ap (λ b. cond b (f x) x) (sym (both q))))

  at_one : (o : Option X) (b : Bool) (f : X → X) (x : X) → (b ≡ true → o ≡ Some x) → cond b (Some (f x)) o ≡ option_and_then (λ y. Some (cond b (f y) y)) o
  at_one None true f x h = let no : None ≡ Some x = h refl in cc
  at_one None false f x h = refl
  at_one (Some y) true f x h = let e : Some y ≡ Some x = h refl in let same : y ≡ x = cc in ap (λ z. Some (f z)) (sym same)
  at_one (Some y) false f x h = refl

  -- what stands at one place is changed
  pub one_changed : (m : Contents X) (p : Place) (f : X → X) (x : X) → finite.get m p ≡ Some x → finite.insert m p (f x) ≡ changed_where (λ q. same_place q p) f m
  one_changed m p f x here =
      same_contents _ _ (λ q.
      finite.get-insert place_cmp_total m p (f x) q
      ∙ at_one (finite.get m q) (same_place q p) f x (λ t. ap (finite.get m) (same_is q p t) ∙ here)
      ∙ sym (get-remade _ m q))

  stays : (b : Bool) (f : X → X) (x : X) → (b ≡ true → f x ≡ x) → cond b (f x) x ≡ x
  stays true f x h = h refl
  stays false f x h = refl

  pub one_kept : (m : Contents X) (p : Place) (f : X → X) → ((x : X) → finite.get m p ≡ Some x → f x ≡ x) → m ≡ changed_where (λ q. same_place q p) f m
  one_kept m p f h =
      sym (none_changed _ f m (λ q x e. stays (same_place q p) f x (λ t. h x (ap (finite.get m) (sym (same_is q p t)) ∙ e))))

-- a cell of a spill that was emptied is none
settled : {X : Type 0} (t : Bool) (f : X → X) (x y : X) → f x ≡ cond t y x → f y ≡ y → f (f x) ≡ f x
settled true f x y one two = ap f one ∙ two ∙ sym one
settled false f x y one two = ap f one

pub unspilled_twice : (a : Place) (x : Cell) → unspilled celled a (unspilled celled a x) ≡ unspilled celled a x
unspilled_twice a (cells.EmptyCell s) = refl
unspilled_twice a (cells.BooleanCell v s) = refl
unspilled_twice a (cells.NumberCell v s) = refl
unspilled_twice a (cells.ErrorCell e s) = refl
unspilled_twice a (cells.SharedString i s) = refl
unspilled_twice a (cells.CellFormula f s v) = refl
unspilled_twice a (cells.ArrayFormula kind f s r v) = refl
unspilled_twice a (cells.SpillCell s b v) = settled (same_place a b) (unspilled celled a) (cells.SpillCell s b v) (cells.EmptyCell s) refl refl

-- what stands where an array formula does
pub there_array : (p : Place) (o : Option Cell) (f s : ℕ) (array : Array) → formula_array p o ≡ Some (f, s, array)
    → (v : FormulaValue) × (o ≡ Some (cells.ArrayFormula array.kind f s (array.block.width, array.block.height) v)) × (block_at p array.block.width array.block.height ≡ array.block)
there_array p None f s array e = cc
there_array p (Some (cells.EmptyCell n)) f s array e = cc
there_array p (Some (cells.BooleanCell v n)) f s array e = cc
there_array p (Some (cells.NumberCell v n)) f s array e = cc
there_array p (Some (cells.ErrorCell v n)) f s array e = cc
there_array p (Some (cells.SharedString v n)) f s array e = cc
there_array p (Some (cells.CellFormula g n v)) f s array e = cc
there_array p (Some (cells.SpillCell n b v)) f s array e = cc
there_array p (Some (cells.ArrayFormula k g n r v)) f s array e =
    let same : ◌≡◌ {A = ℕ × ℕ × Array} (g, n, record { block = block_at p r.0 r.1; kind = k }) (f, s, array) = cc in (
      v,
      ap (λ (z : ℕ × ℕ × Array). Some (cells.ArrayFormula z.2.kind z.0 z.1 (z.2.block.width, z.2.block.height) v)) same,
      ap (λ (z : ℕ × ℕ × Array). block_at p z.2.block.width z.2.block.height) (sym same) ∙ ap (λ (z : ℕ × ℕ × Array). z.2.block) same,
    )

no_anchor : (p : Place) (x : Cell) → formula_array p (Some x) ≡ None → anchor_reset celled x ≡ x
no_anchor p (cells.EmptyCell n) e = refl
no_anchor p (cells.BooleanCell v n) e = refl
no_anchor p (cells.NumberCell v n) e = refl
no_anchor p (cells.ErrorCell v n) e = refl
no_anchor p (cells.SharedString v n) e = refl
no_anchor p (cells.CellFormula f n v) e = refl
no_anchor p (cells.SpillCell n b v) e = refl
no_anchor p (cells.ArrayFormula kind f n r v) e = cc

module _ (m : Contents Cell) (p : Place) where
  -- a place of which the cell, if any, was emptied
  pub is_unspilled : (a k : Place) (x y : Cell) → k ≡ p → Some x ≡ finite.get m p → y ≡ unspilled celled a x → finite.insert m k y ≡ changed_where (λ q. same_place q p) (unspilled celled a) m
  is_unspilled a k x y same e f =
      ap (λ (q : Place). finite.insert m q y) same ∙ ap (finite.insert m p) f ∙ one_changed m p (unspilled celled a) x (sym e)

  pub none_there : (f : Cell → Cell) → None ≡ finite.get m p → m ≡ changed_where (λ q. same_place q p) f m
  none_there f e = one_kept m p f (λ x is. let never : None ≡ Some x = e ∙ is in cc)

  -- an array formula that was reset, if any
  pub is_reset : (f s : ℕ) (array : Array) → formula_array p (finite.get m p) ≡ Some (f, s, array) → finite.insert m p (cells.ArrayFormula array.kind f s (pos 1, pos 1) formulas.Unevaluated) ≡ changed_where (λ q. same_place q p) (anchor_reset celled) m
  is_reset f s array e =
      let here = there_array p (finite.get m p) f s array e in
      one_changed m p (anchor_reset celled) (cells.ArrayFormula array.kind f s (array.block.width, array.block.height) here.0) here.1

  pub none_to_reset : formula_array p (finite.get m p) ≡ None → m ≡ changed_where (λ q. same_place q p) (anchor_reset celled) m
  none_to_reset e = one_kept m p (anchor_reset celled) (λ x is. no_anchor p x (ap (formula_array p) (sym is) ∙ e))

-- a row of a spill is emptied column by column, and a block of it row by row
module _ (m : Contents Cell) (a : Place) where
  pub columns_begun : (row column at : ℤ) → at ≡ column → m ≡ changed_where (is_in_lines row (row +ℤ pos 1) column at) (unspilled celled a) m
  columns_begun row column at e =
      nowhere _ (unspilled celled a) m (λ q. ap (λ n. is_in_lines row (row +ℤ pos 1) column n q) e ∙ no_columns row (row +ℤ pos 1) column q)

  pub columns_more : (row column at next : ℤ) (now after : Contents Cell) → column ≤ℤ at → next ≡ at +ℤ pos 1
      → now ≡ changed_where (is_in_lines row (row +ℤ pos 1) column at) (unspilled celled a) m → after ≡ changed_where (λ q. same_place q (row, at)) (unspilled celled a) now
      → after ≡ changed_where (is_in_lines row (row +ℤ pos 1) column next) (unspilled celled a) m
  columns_more row column at next now after least e h k =
      k ∙ ap (changed_where (λ q. same_place q (row, at)) (unspilled celled a)) h
      ∙ changed_more _ _ (is_in_lines row (row +ℤ pos 1) column (at +ℤ pos 1)) (unspilled celled a) m (unspilled_twice a) (λ q. column_more row column at q least)
      ∙ ap (λ n. changed_where (is_in_lines row (row +ℤ pos 1) column n) (unspilled celled a) m) (sym e)

  pub columns_done : (row column last r k at : ℤ) (now : Contents Cell) → r ≡ row → k ≡ column → at ≡ last
      → now ≡ changed_where (is_in_lines r (r +ℤ pos 1) k at) (unspilled celled a) m → now ≡ changed_where (is_in_lines row (row +ℤ pos 1) column last) (unspilled celled a) m
  columns_done row column last r k at now d e f h =
      h ∙ ap (λ n. changed_where (is_in_lines n (n +ℤ pos 1) k at) (unspilled celled a) m) d
      ∙ ap (λ n. changed_where (is_in_lines row (row +ℤ pos 1) n at) (unspilled celled a) m) e
      ∙ ap (λ n. changed_where (is_in_lines row (row +ℤ pos 1) column n) (unspilled celled a) m) f

  pub rows_begun : (row column last at : ℤ) → at ≡ row → m ≡ changed_where (is_in_lines row at column last) (unspilled celled a) m
  rows_begun row column last at e =
      nowhere _ (unspilled celled a) m (λ q. ap (λ n. is_in_lines row n column last q) e ∙ no_rows row column last q)

  pub rows_more : (row column last at next k l r : ℤ) (now after : Contents Cell) → row ≤ℤ at → next ≡ at +ℤ pos 1 → k ≡ column → l ≡ last → r ≡ a.0
      → now ≡ changed_where (is_in_lines row at column last) (unspilled celled a) m → after ≡ changed_where (is_in_lines at (at +ℤ pos 1) k l) (unspilled celled (r, k)) now
      → a.1 ≡ column → after ≡ changed_where (is_in_lines row next column last) (unspilled celled a) m
  rows_more row column last at next k l r now after least e f g i h j z =
      j ∙ ap (λ n. changed_where (is_in_lines at (at +ℤ pos 1) k l) (unspilled celled (n, k)) now) i
      ∙ ap (λ n. changed_where (is_in_lines at (at +ℤ pos 1) k n) (unspilled celled (a.0, k)) now) g
      ∙ ap (λ n. changed_where (is_in_lines at (at +ℤ pos 1) n last) (unspilled celled (a.0, n)) now) f
      ∙ ap (λ n. changed_where (is_in_lines at (at +ℤ pos 1) column last) (unspilled celled (a.0, n)) now) (sym z)
      ∙ ap (changed_where (is_in_lines at (at +ℤ pos 1) column last) (unspilled celled a)) h
      ∙ changed_more _ _ (is_in_lines row (at +ℤ pos 1) column last) (unspilled celled a) m (unspilled_twice a) (λ q. row_more row at column last q least)
      ∙ ap (λ n. changed_where (is_in_lines row n column last) (unspilled celled a) m) (sym e)

  pub rows_done : (row column last last_row at : ℤ) (now : Contents Cell) → at ≡ last_row
      → now ≡ changed_where (is_in_lines row at column last) (unspilled celled a) m → now ≡ changed_where (is_in_lines row last_row column last) (unspilled celled a) m
  rows_done row column last last_row at now e h = h ∙ ap (λ n. changed_where (is_in_lines row n column last) (unspilled celled a) m) e
