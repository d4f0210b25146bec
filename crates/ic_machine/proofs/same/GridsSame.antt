-- The commands on the layout, the styles of rows and columns, the tabs, and those on the cells of one grid that look at no
-- notation, leave the same of books that are the same.
use Rattle.std.proofs.Common.{◌≡◌, ℕ, ℤ, List, [], ◌∷◌, length, Bool, true, false, cond, not, Option, Some, None, refl, sym, ap, ap₂, ◌∙◌}
use Rattle.std.specs.FinMap as finite
use Rattle.std.specs.Cmp.{int_cmp_total}
use Rattle.std.specs.Ordering.{eq_by_cmp, int_cmp}
use Rattle.std.specs.Prelude.{option_map, unwrap_or}
use Rattle.ic_cells.specs.declared.layout.ColumnProps.{ColumnProps}
use Rattle.ic_cells.specs.declared.layout.Merge.{Merge}
use Rattle.ic_cells.specs.declared.layout.RowProps.{RowProps}
use Rattle.ic_cells.specs.declared.style.Style.{Style}
use Rattle.ic_cells.specs.declared.value.FormulaValue.{FormulaValue}
use Rattle.ic_cells.specs.declared.value.SpillValue.{SpillValue}
use Rattle.ic_grid.specs.Arrays.{has_cut, is_cut_by}
use Rattle.ic_grid.specs.Block.{Place, first_place, is_area}
use Rattle.ic_grid.specs.Clear.{cleared}
use Rattle.ic_grid.specs.Contents.{Contents}
use Rattle.ic_grid.specs.Shape.{Shape, is_anchor, is_formula}
use Rattle.ic_grid.specs.Spill.{first_blocking, misfits, spilled}
use Rattle.ic_grid.specs.Style.{Columns, Rows}
use Rattle.ic_grid.specs.Value.{shape_at, valued}
use Rattle.ic_grid.specs.declared.block.Block.{Block}
use Rattle.ic_machine.specs.Book.{Book, Grid, Sheet, with_sheet}
use Rattle.ic_machine.specs.Content.{Content, held}
use Rattle.ic_machine.specs.Line.{column_causes, column_of, from_column, from_row, plain_column, plain_row, row_causes, row_of, with_column, with_row}
use Rattle.ic_machine.specs.Refusal.{BadArea, Causes, ClearArray, NoFormulaCell}
use Rattle.ic_machine.specs.Same.{IsSameBook, IsSameGrid, IsSameSheet, unstyled, unstyled_column, unstyled_row}
use Rattle.ic_machine.specs.Styling.{numbered}
use Rattle.ic_machine.specs.subjects.Arrays.{blocked_causes, clear_step, put_spill_step, put_value_step, spill_causes}
use Rattle.ic_machine.specs.subjects.Layout.{hide_column_step, hide_row_step, set_height_step, set_width_step}
use Rattle.ic_machine.specs.subjects.Styles.{delete_column_step, delete_row_step, set_column_step, set_row_step, without_column_style, without_row_style}
use Rattle.ic_machine.proofs.contents.AlikeGrid.{cleared_as, has_in_as, shape_at_as, valued_as}
use Rattle.ic_machine.proofs.contents.BareGrid.{bare, bared, first_blocking_bare, no_columns, no_rows, seen_bare, spilled_bare}
use Rattle.ic_machine.proofs.same.SameLemmas.{contents_same}
use Rattle.ic_machine.proofs.same.SameSteps.{SameSteps, at_sheet_same, contents_back, refused_same, with_sheet_same}

-- What is set for rows and columns. ----

cond_bare : {P : Type 0} (f : P → P) (t : Bool) (x y : P) (o p : Option P) → f x ≡ f y → option_map f o ≡ option_map f p → option_map f (cond t (Some x) o) ≡ option_map f (cond t (Some y) p)
cond_bare {P} f true x y o p e h = ap (λ (z : P). let found : Option P = Some z in found) e
cond_bare f false x y o p e h = h

module _ (g h : Grid) (same : IsSameGrid g h) where
  with_rows : (rows others : Rows) → ((row : ℤ) → option_map unstyled_row (finite.get rows row) ≡ option_map unstyled_row (finite.get others row))
      → IsSameGrid (record g { rows = rows }) (record h { rows = others })
  with_rows rows others e = record { contents = same.contents; rows = e; columns = same.columns; merges = same.merges }

  with_columns : (columns others : Columns) → ((column : ℤ) → option_map unstyled_column (finite.get columns column) ≡ option_map unstyled_column (finite.get others column))
      → IsSameGrid (record g { columns = columns }) (record h { columns = others })
  with_columns columns others e = record { contents = same.contents; rows = same.rows; columns = e; merges = same.merges }

  -- the same put for one
  pub row_put : (row : ℤ) (x y : RowProps) → unstyled_row x ≡ unstyled_row y → IsSameGrid (record g { rows = finite.insert g.rows row x }) (record h { rows = finite.insert h.rows row y })
  row_put row x y e =
      with_rows (finite.insert g.rows row x) (finite.insert h.rows row y)
      (λ q. ap (option_map unstyled_row) (finite.get-insert int_cmp_total g.rows row x q)
      ∙ cond_bare unstyled_row (eq_by_cmp int_cmp q row) x y (finite.get g.rows q) (finite.get h.rows q) e (same.rows q)
      ∙ ap (option_map unstyled_row) (sym (finite.get-insert int_cmp_total h.rows row y q)))

  pub column_put : (column : ℤ) (x y : ColumnProps) → unstyled_column x ≡ unstyled_column y
      → IsSameGrid (record g { columns = finite.insert g.columns column x }) (record h { columns = finite.insert h.columns column y })
  column_put column x y e =
      with_columns (finite.insert g.columns column x) (finite.insert h.columns column y)
      (λ q. ap (option_map unstyled_column) (finite.get-insert int_cmp_total g.columns column x q)
      ∙ cond_bare unstyled_column (eq_by_cmp int_cmp q column) x y (finite.get g.columns q) (finite.get h.columns q) e (same.columns q)
      ∙ ap (option_map unstyled_column) (sym (finite.get-insert int_cmp_total h.columns column y q)))

  -- what is set for one is the same
  row_same : (row : ℤ) → unstyled_row (row_of g.rows row) ≡ unstyled_row (row_of h.rows row)
  row_same row = go (finite.get g.rows row) (finite.get h.rows row) (same.rows row)
    where
      go : (o p : Option RowProps) → option_map unstyled_row o ≡ option_map unstyled_row p → unstyled_row (unwrap_or o plain_row) ≡ unstyled_row (unwrap_or p plain_row)
      go None None e = refl
      go None (Some y) e = absurd (cc)
      go (Some x) None e = absurd (cc)
      go (Some x) (Some y) e = cc

  column_same : (column : ℤ) → unstyled_column (column_of g.columns column) ≡ unstyled_column (column_of h.columns column)
  column_same column = go (finite.get g.columns column) (finite.get h.columns column) (same.columns column)
    where
      go : (o p : Option ColumnProps) → option_map unstyled_column o ≡ option_map unstyled_column p → unstyled_column (unwrap_or o plain_column) ≡ unstyled_column (unwrap_or p plain_column)
      go None None e = refl
      go None (Some y) e = absurd (cc)
      go (Some x) None e = absurd (cc)
      go (Some x) (Some y) e = cc

  pub width_same : (column : ℤ) (width : ℕ) → SameSteps IsSameGrid (set_width_step column width g) (set_width_step column width h)
  unfolding set_width_step
  width_same column width =
      refused_same IsSameGrid (column_causes column) (column_causes column) _ _ [] [] refl
      (column_put column _ _ (ap (λ (props : ColumnProps). record props { width = Some width }) (column_same column)))

  pub height_same : (row : ℤ) (height : ℕ) → SameSteps IsSameGrid (set_height_step row height g) (set_height_step row height h)
  unfolding set_height_step
  height_same row height =
      refused_same IsSameGrid (row_causes row) (row_causes row) _ _ [] [] refl (row_put row _ _ (ap (λ (props : RowProps). record props { height = Some height }) (row_same row)))

  pub column_hidden_same : (column : ℤ) (hidden : Bool) → SameSteps IsSameGrid (hide_column_step column hidden g) (hide_column_step column hidden h)
  unfolding hide_column_step
  column_hidden_same column hidden =
      refused_same IsSameGrid (column_causes column) (column_causes column) _ _ [] [] refl
      (column_put column _ _ (ap (λ (props : ColumnProps). record props { hidden = hidden }) (column_same column)))

  pub row_hidden_same : (row : ℤ) (hidden : Bool) → SameSteps IsSameGrid (hide_row_step row hidden g) (hide_row_step row hidden h)
  unfolding hide_row_step
  row_hidden_same row hidden =
      refused_same IsSameGrid (row_causes row) (row_causes row) _ _ [] [] refl (row_put row _ _ (ap (λ (props : RowProps). record props { hidden = hidden }) (row_same row)))

  -- a style is taken from one for which anything was set
  from_row_same : (row : ℤ) (o p : Option RowProps) → option_map unstyled_row o ≡ option_map unstyled_row p
      → IsSameGrid (record g { rows = from_row o row without_row_style g.rows }) (record h { rows = from_row p row without_row_style h.rows })
  from_row_same row None None e = same
  from_row_same row None (Some y) e = absurd (cc)
  from_row_same row (Some x) None e = absurd (cc)
  from_row_same row (Some x) (Some y) e =
      let bare_same : unstyled_row x ≡ unstyled_row y = cc in
      row_put row (without_row_style x) (without_row_style y) (ap (λ (props : RowProps). record props { style = None }) bare_same)

  from_column_same : (column : ℤ) (o p : Option ColumnProps) → option_map unstyled_column o ≡ option_map unstyled_column p
      → IsSameGrid (record g { columns = from_column o column without_column_style g.columns }) (record h { columns = from_column p column without_column_style h.columns })
  from_column_same column None None e = same
  from_column_same column None (Some y) e = absurd (cc)
  from_column_same column (Some x) None e = absurd (cc)
  from_column_same column (Some x) (Some y) e =
      let bare_same : unstyled_column x ≡ unstyled_column y = cc in
      column_put column (without_column_style x) (without_column_style y) (ap (λ (props : ColumnProps). record props { style = None }) bare_same)

  pub row_unstyled : (row : ℤ) → SameSteps IsSameGrid (delete_row_step row g) (delete_row_step row h)
  unfolding delete_row_step
  row_unstyled row = refused_same IsSameGrid (row_causes row) (row_causes row) _ _ [] [] refl (from_row_same row (finite.get g.rows row) (finite.get h.rows row) (same.rows row))

  pub column_unstyled : (column : ℤ) → SameSteps IsSameGrid (delete_column_step column g) (delete_column_step column h)
  unfolding delete_column_step
  column_unstyled column =
      refused_same IsSameGrid (column_causes column) (column_causes column) _ _ [] [] refl
      (from_column_same column (finite.get g.columns column) (finite.get h.columns column) (same.columns column))

  -- a style is set, by whatever number
  row_styled : (row : ℤ) (m n : ℕ) → IsSameGrid (record g { rows = with_row row (λ props. record props { style = Some m }) g.rows }) (record h { rows = with_row row (λ props. record props { style = Some n }) h.rows })
  row_styled row m n = row_put row _ _ (ap (λ (props : RowProps). record props { style = Some 0 }) (row_same row))

  column_styled : (column : ℤ) (m n : ℕ)
      → IsSameGrid (record g { columns = with_column column (λ props. record props { style = Some m }) g.columns }) (record h { columns = with_column column (λ props. record props { style = Some n }) h.columns })
  column_styled column m n = column_put column _ _ (ap (λ (props : ColumnProps). record props { style = Some 0 }) (column_same column))

  -- The cells of one grid. ----

  abbrev is_bare : bared g.contents ≡ bared h.contents
  is_bare = contents_same g h same

  -- what is found without styles is found in both
  found_both : {A : Type 0} (find : Contents Content → A) (bare_find : Contents Content → A) → ((m : Contents Content) → bare_find (bared m) ≡ find m) → find g.contents ≡ find h.contents
  found_both find bare_find e = sym (e g.contents) ∙ ap bare_find is_bare ∙ e h.contents

  shape_same : (p : Place) → shape_at held g.contents p ≡ shape_at held h.contents p
  shape_same p = found_both (λ m. shape_at held m p) (λ m. shape_at bare m p) (λ m. shape_at_as unstyled held bare seen_bare m p)

  pub clear_same : (all : Bool) (b : Block) → SameSteps IsSameGrid (clear_step all b g) (clear_step all b h)
  unfolding clear_step
  clear_same all b =
      refused_same IsSameGrid _ _ _ _ [] []
      (ap (λ (cut : Bool). let causes : Causes = (not (is_area b), BadArea) ∷ (cut, ClearArray) ∷ [] in causes)
      (found_both (λ m. has_cut held m b) (λ m. has_cut bare m b) (λ m. has_in_as unstyled held bare seen_bare m b (is_cut_by b))))
      (contents_back (cleared held b all g.contents) (cleared held b all h.contents)
      (found_both (λ m. bared (cleared held b all m)) (λ m. cleared bare b all m) (λ m. cleared_as unstyled held bare seen_bare m b all)) g h same)

  pub value_same : (p : Place) (value : FormulaValue) → SameSteps IsSameGrid (put_value_step p value g) (put_value_step p value h)
  unfolding put_value_step
  value_same p value =
      refused_same IsSameGrid _ _ _ _ [] [] (ap (λ (s : Shape). let causes : Causes = (not (is_formula s), NoFormulaCell) ∷ [] in causes) (shape_same p))
      (contents_back (valued held p value g.contents) (valued held p value h.contents)
      (found_both (λ m. bared (valued held p value m)) (λ m. valued bare p value m) (λ m. valued_as unstyled held bare seen_bare m p value)) g h same)

  blocking_same : (b : Block) (count : ℕ) → first_blocking held g.merges g.contents b count ≡ first_blocking held h.merges h.contents b count
  blocking_same b count =
      found_both (λ m. first_blocking held g.merges m b count) (λ m. first_blocking bare g.merges m b count) (λ m. first_blocking_bare g.merges m b count)
      ∙ ap (λ (merges : List Merge). first_blocking held merges h.contents b count) same.merges

  spilled_same : (b : Block) (values : List SpillValue) → bared (spilled held g.rows g.columns b values g.contents) ≡ bared (spilled held h.rows h.columns b values h.contents)
  spilled_same b values = sym (spilled_bare g.rows g.columns b values g.contents) ∙ ap (spilled bare no_rows no_columns b values) is_bare ∙ spilled_bare h.rows h.columns b values h.contents

  pub spill_same : (b : Block) (values : List SpillValue) → SameSteps IsSameGrid (put_spill_step b values g) (put_spill_step b values h)
  unfolding put_spill_step
  spill_same b values =
      refused_same IsSameGrid (spill_causes g b (length values)) (spill_causes h b (length values)) _ _ [] []
      (ap₂ (λ (s : Shape) (o : Option Place). let causes : Causes = (not (is_anchor s), NoFormulaCell) ∷ (misfits b (length values) s, BadArea) ∷ blocked_causes o in causes)
      (shape_same (first_place b)) (blocking_same b (length values)))
      (contents_back (spilled held g.rows g.columns b values g.contents) (spilled held h.rows h.columns b values h.contents) (spilled_same b values) g h same)

-- the styles of rows and columns
module _ (b c : Book) (same : IsSameBook b c) where
  with_style_same : (index : ℕ) (s t : Sheet) (set : ℕ → Grid → Grid) (m n : ℕ) (styles others : List Style) → IsSameSheet s t → ((g h : Grid) → IsSameGrid g h → IsSameGrid (set m g) (set n h))
      → IsSameBook (record (with_sheet b index (record s { grid = set m s.grid })) { styles = styles }) (record (with_sheet c index (record t { grid = set n t.grid })) { styles = others })
  with_style_same index s t set m n styles others h set_same =
      with_sheet_same b c same index (record s { grid = set m s.grid }) (record t { grid = set n t.grid }) styles others
      (record { id = h.id; name = h.name; pool = h.pool; grid = set_same s.grid t.grid h.grid; tab = h.tab })

  pub column_style_same : (index : ℕ) (column : ℤ) (style : Style) → SameSteps IsSameBook (set_column_step index column style b) (set_column_step index column style c)
  unfolding set_column_step
  column_style_same index column style =
      at_sheet_same b c same index _ _
      (λ s t e f h.
      refused_same IsSameBook (column_causes column) (column_causes column) _ _ [] [] refl
      (with_style_same index s t (λ n grid. record grid { columns = with_column column (λ props. record props { style = Some n }) grid.columns }) (numbered style b.styles).number (numbered style c.styles).number
      (numbered style b.styles).styles (numbered style c.styles).styles h
      (λ x y grids. column_styled x y grids column (numbered style b.styles).number (numbered style c.styles).number)))

  pub row_style_same : (index : ℕ) (row : ℤ) (style : Style) → SameSteps IsSameBook (set_row_step index row style b) (set_row_step index row style c)
  unfolding set_row_step
  row_style_same index row style =
      at_sheet_same b c same index _ _
      (λ s t e f h.
      refused_same IsSameBook (row_causes row) (row_causes row) _ _ [] [] refl
      (with_style_same index s t (λ n grid. record grid { rows = with_row row (λ props. record props { style = Some n }) grid.rows }) (numbered style b.styles).number (numbered style c.styles).number
      (numbered style b.styles).styles (numbered style c.styles).styles h
      (λ x y grids. row_styled x y grids row (numbered style b.styles).number (numbered style c.styles).number)))
