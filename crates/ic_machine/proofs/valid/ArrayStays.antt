-- A book stays valid when an array is written into a sheet.
use Rattle.std.proofs.Common.{◌≡◌, ◌∙◌, refl, sym, subst, ℕ, zero, suc, pos, ◌-◌, ◌<◌, ◌≤◌, List, [], length, Bool, true, false, cond, Option, Some, None, arith}
use Rattle.std.proofs.lemmas.Bool.{both_ways}
use Rattle.std.proofs.lemmas.Option.{slice_get_within}
use Rattle.std.specs.FinMap as finite
use Rattle.std.specs.List.{slice_get}
use Rattle.ic_laws.specs.Notations.{Notations}
use Rattle.ic_laws.specs.ValidCore.{IsKeptFormula}
use Rattle.ic_laws.specs.declared.scene.Scene.{Scene}
use Rattle.ic_laws.specs.declared.tree.Formula.{Formula}
use Rattle.ic_cells.specs.Style as style_list
use Rattle.ic_cells.specs.Style.{AreStyles, default_style}
use Rattle.ic_cells.specs.declared.cell.ArrayKind.TheVariants as kinds
use Rattle.ic_cells.specs.declared.style.Style.{Style}
use Rattle.ic_cells.specs.declared.value.FormulaValue.TheVariants as fvalues
use Rattle.ic_cells.specs.declared.value.SpillValue.TheVariants as spills
use Rattle.ic_grid.proofs.BlockLemmas.{first_in}
use Rattle.ic_grid.proofs.RowLemmas.{IsAt, at_first, first_left, none_at_end}
use Rattle.ic_grid.specs.Block.{Place, first_place, is_area, next_place}
use Rattle.ic_grid.specs.Contents.{Contents}
use Rattle.ic_grid.specs.Merges.{meets_merge}
use Rattle.ic_grid.specs.Prepare.{loosened_in}
use Rattle.ic_grid.specs.Spill.{array_written, with_blanks, written_style}
use Rattle.ic_grid.specs.Walk.{is_left}
use Rattle.ic_grid.specs.declared.block.Block.{Block}
use Rattle.ic_machine.specs.Book.{Book, Grid, Sheet, notations_in, scene_in, style_number_at}
use Rattle.ic_machine.specs.Content.{AnchorContent, Content, FormulaContent, SpillContent, formula_index, held}
use Rattle.ic_machine.specs.Placed.{index_in_pool, is_dynamic, pool_with}
use Rattle.ic_machine.specs.Valid.{HasFormula, HasGridStyles, IsValidBook}
use Rattle.ic_machine.specs.subjects.Arrays.{place_count, with_array, with_contents}
use Rattle.ic_machine.specs.subjects.Writing.{formula_written}
use Rattle.ic_machine.proofs.contents.ArrayCells.{written_array_whole}
use Rattle.ic_machine.proofs.contents.HaveLemmas.{AllHave, all_loosened, all_put}
use Rattle.ic_machine.proofs.valid.StandingLemmas.{IsStanding, passed_on}
use Rattle.ic_machine.proofs.valid.StylesStay.{HasNumber, has_number}
use Rattle.ic_machine.proofs.valid.ValidLemmas.{HoldsOf, holds_at, put_valid, styles_more}
use Rattle.ic_machine.proofs.valid.WritingSteps.{IsGood, number_below}

-- the styles that it leaves, and what stands in the places
record IsWritten (grid : Grid) (P : ℕ → Place → Content → Type 0) (before : List Style) (left : Contents Content × List Style) : Type 0 where
  are : AreStyles left.1
  more : length before ≤ length left.1
  stand : AllHave held (P (length left.1)) left.0

unquoted_by : (t : Bool) (s : Style) (number : ℕ) (all : List Style) → AreStyles all → number < length all
    → (let r : ℕ × List Style = cond t (style_list.style_number s all, style_list.with_style_in s all) (number, all) in HasNumber all r.1 r.0)
unquoted_by true s number all are lt = has_number s all are
unquoted_by false s number all are lt = record { are = are; more = omega (arith); below = lt }

module _ (n : Notations) (scene : Scene) (s : Sheet) (b : Block) where
  abbrev Stands : ℕ → Place → Content → Type 0
  Stands count q x = IsStanding n scene s count q x

  more_stand : (count more : ℕ) → count ≤ more → (m : Contents Content) → AllHave held (Stands count) m → AllHave held (Stands more) m
  more_stand count more le m stand q x e = let h = stand q x e in let lt = h.0 in (omega (arith, le, lt), h.1, h.2)

  -- a number of a style that a place gets when it is written
  number_of : (m : Contents Content) (styles : List Style) (q : Place) → AreStyles styles → HasGridStyles (length styles) s.grid → AllHave held (Stands (length styles)) m
      → HasNumber styles (written_style held s.grid.rows s.grid.columns m styles q).1 (written_style held s.grid.rows s.grid.columns m styles q).0
  number_of m styles q are lines stand =
      let number : ℕ = style_number_at (record s.grid { contents = m }) q.0 q.1 in
      let some = slice_get_within styles 0 default_style are.default in
      unquoted_by (style_list.style_at styles number).quote_prefix (style_list.with_quote_prefix false (style_list.style_at styles number)) number styles are
      (number_below (length styles) (record s.grid { contents = m }) q (record { contents = λ p x e. (stand p x e).0; rows = lines.rows; columns = lines.columns }) some)

  blanks_written : (k : ℕ) (q : Place) (m : Contents Content) (styles : List Style) → AreStyles styles → HasGridStyles (length styles) s.grid → AllHave held (Stands (length styles)) m
      → IsWritten s.grid Stands styles (with_blanks held s.grid.rows s.grid.columns b k q m styles)
  blanks_written zero q m styles are lines stand = record { are = are; more = omega (arith); stand = stand }
  blanks_written (suc k) q m styles are lines stand =
      let w = written_style held s.grid.rows s.grid.columns m styles q in
      let x : Content = SpillContent (first_place b) (spills.Text []) w.0 in
      let has = number_of m styles q are lines stand in
      let more = has.more in
      let below = has.below in
      let rest = blanks_written k (next_place b q) (finite.insert m q x) w.1 has.are (styles_more (length styles) (length w.1) more s.grid lines)
      (all_put held (Stands (length w.1)) m q x (more_stand (length styles) (length w.1) more m stand) (below, tt, tt)) in
      let further = rest.more in
      record { are = rest.are; more = omega (arith, more, further); stand = rest.stand }

  array_stands : (k f : ℕ) (m : Contents Content) (styles : List Style) → AreStyles styles → HasGridStyles (length styles) s.grid → AllHave held (Stands (length styles)) m → HasFormula n scene s (first_place b) (Some f)
      → IsWritten s.grid Stands styles (array_written held s.grid.rows s.grid.columns b k f m styles)
  array_stands k f m styles are lines stand formula =
      let a : Place = first_place b in
      let w = written_style held s.grid.rows s.grid.columns m styles a in
      let x : Content = AnchorContent f (b.width, b.height) kinds.Cse fvalues.Unevaluated w.0 in
      let between : Contents Content = loosened_in held b m in
      let has = number_of m styles a are lines stand in
      let more = has.more in
      let below = has.below in
      let kept = all_loosened held (Stands (length w.1)) (passed_on n scene s (length w.1)) b m (more_stand (length styles) (length w.1) more m stand) in
      let rest = blanks_written k (next_place b a) (finite.insert between a x) w.1 has.are (styles_more (length styles) (length w.1) more s.grid lines) (all_put held (Stands (length w.1)) between a x kept (below, formula, tt)) in
      let further = rest.more in
      record { are = rest.are; more = omega (arith, more, further); stand = rest.stand }

module _ (b : Book) (valid : IsValidBook b) (index : ℕ) (s : Sheet) (e : slice_get b.sheets index ≡ Some s) (block : Block) (f : Formula) (good : IsGood (notations_in b) (scene_in b) s (first_place block) (formula_written b s f))
    (area : is_area block ≡ true) (apart : meets_merge s.grid.merges block ≡ false) where
  abbrev pool : List Formula
  pool = pool_with f s.pool

  abbrev pooled : Sheet
  pooled = record s { pool = pool }

  -- the formula's index, in the pool
  formula_there : HasFormula (notations_in b) (scene_in b) pooled (first_place block) (Some (index_in_pool f s.pool))
  formula_there =
      subst (HasFormula (notations_in b) (scene_in b) pooled (first_place block)) (index_is (is_dynamic b.tables.kinds f)) (good.formula 0)
    where
      index_is : (t : Bool) → formula_index (cond t (AnchorContent (index_in_pool f s.pool) (pos 1, pos 1) kinds.Dynamic fvalues.Unevaluated 0) (FormulaContent (index_in_pool f s.pool) fvalues.Unevaluated 0)) ≡ Some (index_in_pool f s.pool)
      index_is true = refl
      index_is false = refl

  lifted : (q : Place) (o : Option ℕ) → HasFormula (notations_in b) (scene_in b) s q o → HasFormula (notations_in b) (scene_in b) pooled q o
  lifted q None h = tt
  lifted q (Some i) h =
      let longer = good.longer in
      let lt = h.0 in
      (omega (arith, lt, longer), subst (IsKeptFormula (notations_in b) (scene_in b) (Some s.id) q.0 q.1) (sym (good.stays i h.0)) h.1)

  some_places : (count : ℕ) → IsAt block (first_place block) count → (k : ℕ) × (count ≡ suc k)
  some_places zero at = absurd (both_ways (is_left block (first_place block) (first_place block)) (none_at_end block (first_place block) at (first_place block)) (first_left block (first_place block) ∙ first_in (first_place block) block.width block.height area))
  some_places (suc k) at = (k, refl)

  less_one : (count k : ℕ) → count ≡ suc k → count - 1 ≡ k
  less_one count k e = omega (arith, e)

  pub array_is_written : IsValidBook (with_array b index s block f)
  array_is_written =
      let places = some_places (place_count block) (at_first block area) in
      let holds = holds_at b valid index s e in
      let less : place_count block - 1 ≡ places.0 = less_one (place_count block) places.0 places.1 in
      subst (λ (k : ℕ). IsValidBook (with_contents b index s pool (array_written held s.grid.rows s.grid.columns block k (index_in_pool f s.pool) s.grid.contents b.styles))) (sym less)
      (left places.0 (subst (IsAt block (first_place block)) places.1 (at_first block area)) holds)
    where
      left : (k : ℕ) → IsAt block (first_place block) (suc k) → HoldsOf (notations_in b) (scene_in b) (length b.styles) s
          → IsValidBook (with_contents b index s pool (array_written held s.grid.rows s.grid.columns block k (index_in_pool f s.pool) s.grid.contents b.styles))
      left k at h =
          let written : Contents Content × List Style = array_written held s.grid.rows s.grid.columns block k (index_in_pool f s.pool) s.grid.contents b.styles in
          let new : Sheet = record s { pool = pool; grid = record s.grid { contents = written.0 } } in
          let done = array_stands (notations_in b) (scene_in b) pooled block k (index_in_pool f s.pool) s.grid.contents b.styles valid.styles.styles h.styles
          (λ q x g. (h.styles.contents q x g, lifted q (formula_index x) (h.formulas q x g), h.amounts q x g)) formula_there in
          let whole = written_array_whole s.grid.rows s.grid.columns block s.grid.merges s.grid.contents k (index_in_pool f s.pool) b.styles area apart at (record { inside = h.inside; arrays = h.arrays; apart = h.merges }) in
          let lines = styles_more (length b.styles) (length written.1) done.more s.grid h.styles in
          put_valid b valid index s new e refl refl written.1 done.are done.more
          (record {
            pool = good.pool;
            inside = whole.inside;
            formulas = λ q x g. same_formula written.0 q (formula_index x) (done.stand q x g).1;
            styles = record { contents = λ q x g. (done.stand q x g).0; rows = lines.rows; columns = lines.columns };
            arrays = whole.arrays;
            merges = whole.apart;
            layout = record { frozen = h.layout.frozen; lines = record { rows = h.layout.lines.rows; columns = h.layout.lines.columns } };
            amounts = λ q x g. (done.stand q x g).2;
          })
        where
          same_formula : (m : Contents Content) (q : Place) (o : Option ℕ) → HasFormula (notations_in b) (scene_in b) pooled q o
              → HasFormula (notations_in b) (scene_in b) (record s { pool = pool; grid = record s.grid { contents = m } }) q o
          same_formula m q None g = tt
          same_formula m q (Some i) g = g
