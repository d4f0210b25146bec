-- Contents without the numbers of their styles: what the rules on arrays, spills and clearing find among them is the same,
-- and what they make is the same but for such numbers, whatever the styles and what was set for rows and columns.
use Rattle.std.proofs.Common.{◌≡◌, ℕ, zero, suc, ℤ, List, [], ◌∷◌, Bool, cond, Option, Some, None, refl, sym, ap, ap₂, ◌∙◌}
use Rattle.std.specs.FinMap as finite
use Rattle.std.specs.Prelude.{not, ◌||◌, option_map}
use Rattle.ic_cells.specs.declared.layout.Merge.{Merge}
use Rattle.ic_cells.specs.declared.style.Style.{Style}
use Rattle.ic_cells.specs.declared.cell.ArrayKind.TheVariants as kinds
use Rattle.ic_cells.specs.declared.value.FormulaValue.{FormulaValue}
use Rattle.ic_cells.specs.declared.value.FormulaValue.TheVariants as fvalues
use Rattle.ic_cells.specs.declared.value.SpillValue.{SpillValue}
use Rattle.ic_cells.specs.declared.value.SpillValue.TheVariants as spills
use Rattle.ic_grid.specs.Block.{Place, first_place, is_in_sheet, is_single, next_place, same_place}
use Rattle.ic_grid.specs.Contents.{Contents}
use Rattle.ic_grid.specs.Merges.{is_merged}
use Rattle.ic_grid.specs.Prepare.{loosened_in, without_spill}
use Rattle.ic_grid.specs.Shape.{Holding, Shape, gathered}
use Rattle.ic_grid.specs.Spill.{array_written, blocks, filled, first_blocking, first_of_blocking, first_to_block, is_free, spilled, with_blanks, with_first, written_style}
use Rattle.ic_grid.specs.Style.{Columns, Rows, style_at}
use Rattle.ic_grid.specs.Value.{is_cse_anchor, shape_at}
use Rattle.ic_grid.specs.declared.block.Block.{Block}
use Rattle.ic_machine.specs.Alike.{seen_by}
use Rattle.ic_machine.specs.Content.{AnchorContent, BoolContent, Content, EmptyContent, ErrContent, FormulaContent, NumContent, SpillContent, TextContent, held, shape_of, with_array_area, with_formula_value}
use Rattle.ic_machine.specs.Same.{unstyled}
use Rattle.ic_machine.proofs.contents.AlikeGrid.{IsSeenAs, get-seen, insert-seen, loosened_in_as, shape_at_as, without_spill_as}

-- how contents are held whose styles all have the number 0
abbrev pub bare : Holding Content
bare = record {
  shape = shape_of;
  style = λ x. 0;
  empty = λ style. EmptyContent 0;
  with_value = with_formula_value;
  with_area = with_array_area;
  spill = λ style anchor value. SpillContent anchor value 0;
  array = λ index style width height kind. AnchorContent index (width, height) kind fvalues.Unevaluated 0;
}

bare_shape : (x : Content) → shape_of (unstyled x) ≡ shape_of x
bare_shape (EmptyContent style) = refl
bare_shape (BoolContent truth style) = refl
bare_shape (NumContent amount style) = refl
bare_shape (ErrContent e style) = refl
bare_shape (TextContent text style) = refl
bare_shape (FormulaContent index value style) = refl
bare_shape (AnchorContent index area kind value style) = refl
bare_shape (SpillContent anchor value style) = refl

bare_valued : (value : FormulaValue) (x : Content) → with_formula_value value (unstyled x) ≡ unstyled (with_formula_value value x)
bare_valued value (EmptyContent style) = refl
bare_valued value (BoolContent truth style) = refl
bare_valued value (NumContent amount style) = refl
bare_valued value (ErrContent e style) = refl
bare_valued value (TextContent text style) = refl
bare_valued value (FormulaContent index old style) = refl
bare_valued value (AnchorContent index area kind old style) = refl
bare_valued value (SpillContent anchor old style) = refl

bare_widened : (width height : ℤ) (x : Content) → with_array_area width height (unstyled x) ≡ unstyled (with_array_area width height x)
bare_widened width height (EmptyContent style) = refl
bare_widened width height (BoolContent truth style) = refl
bare_widened width height (NumContent amount style) = refl
bare_widened width height (ErrContent e style) = refl
bare_widened width height (TextContent text style) = refl
bare_widened width height (FormulaContent index value style) = refl
bare_widened width height (AnchorContent index area kind value style) = refl
bare_widened width height (SpillContent anchor value style) = refl

pub seen_bare : IsSeenAs unstyled held bare
seen_bare = record {
  shape = bare_shape;
  empty = λ x. refl;
  with_value = bare_valued;
  with_area = bare_widened;
  spill = λ x a value. refl;
}

-- contents without their styles
abbrev pub bared : Contents Content → Contents Content
bared m = seen_by unstyled m

-- what keeps an array from spilling is found the same ----

module _ (merges : List Merge) (m : Contents Content) where
  blocks_bare : (a q : Place) → blocks bare merges (bared m) a q ≡ blocks held merges m a q
  blocks_bare a q = ap (λ (s : Shape). not (is_in_sheet q) || is_merged merges q || not (same_place q a || is_free a s)) (shape_at_as unstyled held bare seen_bare m q)

  first_of_bare : (a : Place) (b : Block) (n : ℕ) (q : Place) → first_of_blocking bare merges (bared m) a b n q ≡ first_of_blocking held merges m a b n q
  first_of_bare a b zero q = refl
  first_of_bare a b (suc n) q = ap₂ (λ (t : Bool) (o : Option Place). cond t (Some q) o) (blocks_bare a q) (first_of_bare a b n (next_place b q))

  pub first_blocking_bare : (b : Block) (count : ℕ) → first_blocking bare merges (bared m) b count ≡ first_blocking held merges m b count
  first_blocking_bare b count =
      ap (λ (s : Shape). first_to_block bare merges (bared m) b count s) (shape_at_as unstyled held bare seen_bare m (first_place b))
      ∙ ap (λ (o : Option Place). cond (is_cse_anchor (shape_at held m (first_place b)) || is_single b) None o) (first_of_bare (first_place b) b count (first_place b))

-- spills and arrays that are written ----

abbrev pub no_rows : Rows
no_rows = finite.empty

abbrev pub no_columns : Columns
no_columns = finite.empty

module _ (rows : Rows) (columns : Columns) where
  filled_bare : (b : Block) (q : Place) (values : List SpillValue) (m : Contents Content)
      → filled bare no_rows no_columns b q values (bared m) ≡ bared (filled held rows columns b q values m)
  filled_bare b q [] m = refl
  filled_bare b q (value ∷ values) m =
      let x : Content = SpillContent (first_place b) value (style_at held m rows columns q) in
      ap (λ (c : Contents Content). filled bare no_rows no_columns b (next_place b q) values c) (sym (insert-seen unstyled m q x))
      ∙ filled_bare b (next_place b q) values (finite.insert m q x)

  with_first_bare : (b : Block) (value : SpillValue) (o : Option Content) (m : Contents Content)
      → with_first bare b value (option_map unstyled o) (bared m) ≡ bared (with_first held b value o m)
  with_first_bare b value None m = refl
  with_first_bare b value (Some x) m =
      ap (λ (y : Content). finite.insert (bared m) (first_place b) y) (ap (with_formula_value (gathered value)) (bare_widened b.width b.height x) ∙ bare_valued (gathered value) (with_array_area b.width b.height x))
      ∙ sym (insert-seen unstyled m (first_place b) (with_formula_value (gathered value) (with_array_area b.width b.height x)))

  pub spilled_bare : (b : Block) (values : List SpillValue) (m : Contents Content) → spilled bare no_rows no_columns b values (bared m) ≡ bared (spilled held rows columns b values m)
  spilled_bare b [] m = refl
  spilled_bare b (value ∷ values) m =
      let loose : Contents Content = without_spill held (first_place b) m in
      ap (λ (c : Contents Content). filled bare no_rows no_columns b (next_place b (first_place b)) values c)
      (ap₂ (λ (o : Option Content) (c : Contents Content). with_first bare b value o c) (get-seen unstyled m (first_place b)) (without_spill_as unstyled held bare seen_bare (first_place b) m)
      ∙ with_first_bare b value (finite.get m (first_place b)) loose)
      ∙ filled_bare b (next_place b (first_place b)) values (with_first held b value (finite.get m (first_place b)) loose)

  blanks_bare : (b : Block) (n : ℕ) (q : Place) (m : Contents Content) (styles others : List Style)
      → (with_blanks bare no_rows no_columns b n q (bared m) others).0 ≡ bared (with_blanks held rows columns b n q m styles).0
  blanks_bare b zero q m styles others = refl
  blanks_bare b (suc n) q m styles others =
      let x : Content = SpillContent (first_place b) (spills.Text []) (written_style held rows columns m styles q).0 in
      let more : List Style = (written_style bare no_rows no_columns (bared m) others q).1 in
      ap (λ (c : Contents Content). (with_blanks bare no_rows no_columns b n (next_place b q) c more).0) (sym (insert-seen unstyled m q x))
      ∙ blanks_bare b n (next_place b q) (finite.insert m q x) (written_style held rows columns m styles q).1 more

  pub array_bare : (b : Block) (more index : ℕ) (m : Contents Content) (styles : List Style)
      → (array_written bare no_rows no_columns b more index (bared m) []).0 ≡ bared (array_written held rows columns b more index m styles).0
  array_bare b more index m styles =
      let x : Content = AnchorContent index (b.width, b.height) kinds.Cse fvalues.Unevaluated (written_style held rows columns m styles (first_place b)).0 in
      let others : List Style = (written_style bare no_rows no_columns (bared m) [] (first_place b)).1 in
      let loose : Contents Content = loosened_in held b m in
      ap (λ (c : Contents Content). (with_blanks bare no_rows no_columns b more (next_place b (first_place b)) (finite.insert c (first_place b) (unstyled x)) others).0) (loosened_in_as unstyled held bare seen_bare m b)
      ∙ ap (λ (c : Contents Content). (with_blanks bare no_rows no_columns b more (next_place b (first_place b)) c others).0) (sym (insert-seen unstyled loose (first_place b) x))
      ∙ blanks_bare b more (next_place b (first_place b)) (finite.insert loose (first_place b) x) (written_style held rows columns m styles (first_place b)).1 others
