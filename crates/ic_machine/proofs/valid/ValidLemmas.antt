-- What always holds of a book holds of it with another sheet in the place of one, and after the commands that leave
-- contents, pools and names.
use Rattle.std.proofs.Common.{◌≡◌, ℕ, ℤ, zero, suc, ◌<◌, ◌≤◌, List, [], ◌∷◌, map, length, Bool, true, false, cond, Option, Some, None, Ok, Err, refl, sym, ap, subst, ◌∙◌, arith, inl, inr}
use Rattle.std.proofs.lemmas.Bool.{cases_Bool}
use Rattle.std.specs.Cmp.{int_cmp_total}
use Rattle.std.specs.FinMap as finite
use Rattle.std.specs.FinMap.{int_cmp-IsAntisymmetric}
use Rattle.std.specs.List.{AllByRecursion, IsDistinct, slice_get}
use Rattle.std.specs.Ordering.{eq_by_cmp, int_cmp}
use Rattle.std.specs.Prelude.{nat_eq, option_map}
use Rattle.ic_laws.proofs.core.Lists.{length_updated}
use Rattle.ic_laws.specs.CoreBook.{IsId}
use Rattle.ic_laws.specs.CoreStep.{updated_at}
use Rattle.ic_laws.specs.Name.{agrees, is_sheet_name}
use Rattle.ic_laws.specs.Notations.{Notations}
use Rattle.ic_laws.specs.Position.{is_column, is_row}
use Rattle.ic_laws.specs.ValidCore.{IsKeptBody}
use Rattle.ic_laws.specs.declared.scene.Scene.{Scene}
use Rattle.ic_cells.specs.declared.layout.ColumnProps.{ColumnProps}
use Rattle.ic_cells.specs.declared.layout.RowProps.{RowProps}
use Rattle.ic_cells.specs.Style.{AreStyles}
use Rattle.ic_cells.specs.declared.style.Style.{Style}
use Rattle.ic_grid.specs.Conditions.{AreArrays, AreInSheet, AreMerges}
use Rattle.ic_grid.specs.Style.{Columns, Rows}
use Rattle.ic_machine.specs.Book.{Book, Grid, Sheet, Stepped, Tab, found_or, notations_in, on_grid, on_tab, put_in, scene_in, unless, with_sheet}
use Rattle.ic_machine.specs.Content.{held}
use Rattle.ic_machine.specs.Kept.{StaysValid, StaysValidIf}
use Rattle.ic_machine.specs.Readers.{Leaves}
use Rattle.ic_machine.specs.Refusal.{InvalidSheet, Refusal}
use Rattle.ic_machine.specs.Reply.{Field}
use Rattle.ic_machine.specs.Valid.{HasAmounts, HasCellFormulas, HasGridStyles, HasLayout, HasLines, IsFrozen, IsKeptPool, IsStyleNumber, IsValidBook}
use Rattle.ic_machine.proofs.bound.SceneLemmas.{placed}
use Rattle.ic_cells.proofs.ColumnLemmas.{tie as is_equal}

-- one item in the place of another ----

module _ {X : Type 0} (P : X → Type 0) where
  pub all_put : (i : ℕ) (xs : List X) (new : X) → AllByRecursion P xs → P new → AllByRecursion P (updated_at (λ x. new) i xs)
  all_put i [] new h p = tt
  all_put zero (x ∷ xs) new h p = (p, h.1)
  all_put (suc i) (x ∷ xs) new h p = (h.0, all_put i xs new h.1 p)

  pub all_at : (i : ℕ) (xs : List X) (x : X) → AllByRecursion P xs → slice_get xs i ≡ Some x → P x
  all_at i [] x h e = let no : None ≡ Some x = e in cc
  all_at zero (y ∷ xs) x h e = let same : y ≡ x = cc in subst P same h.0
  all_at (suc i) (y ∷ xs) x h e = all_at i xs x h.1 e

pub all_of : {X : Type 0} (P Q : X → Type 0) → ((x : X) → P x → Q x) → (xs : List X) → AllByRecursion P xs → AllByRecursion Q xs
all_of P Q more [] h = tt
all_of P Q more (x ∷ xs) h = (more x h.0, all_of P Q more xs h.1)

pub unseen_put : {X Y : Type 0} (g : X → Y) (i : ℕ) (xs : List X) (old new : X) → slice_get xs i ≡ Some old → g new ≡ g old → map g (updated_at (λ x. new) i xs) ≡ map g xs
unseen_put g i [] old new e same = refl
unseen_put g zero (x ∷ xs) old new e same = let is : x ≡ old = cc in ap (λ y. y ∷ map g xs) (same ∙ ap g (sym is))
unseen_put g (suc i) (x ∷ xs) old new e same = ap (λ rest. g x ∷ rest) (unseen_put g i xs old new e same)

-- what holds of one sheet of a valid book, beside its id and its name
pub record HoldsOf (n : Notations) (scene : Scene) (count : ℕ) (sheet : Sheet) : Type 0 where
  pub pool : IsKeptPool n scene sheet
  pub inside : AreInSheet held sheet.grid.contents
  pub formulas : HasCellFormulas n scene sheet
  pub styles : HasGridStyles count sheet.grid
  pub arrays : AreArrays held sheet.grid.contents
  pub merges : AreMerges held sheet.grid.contents sheet.grid.merges
  pub layout : HasLayout sheet
  pub amounts : HasAmounts sheet

pub holds_at : (b : Book) → IsValidBook b → (index : ℕ) (s : Sheet) → slice_get b.sheets index ≡ Some s → HoldsOf (notations_in b) (scene_in b) (length b.styles) s
holds_at b valid index s e = record {
  pool = all_at (IsKeptPool (notations_in b) (scene_in b)) index b.sheets s valid.kept.pools e;
  inside = all_at (λ (sheet : Sheet). AreInSheet held sheet.grid.contents) index b.sheets s valid.inside e;
  formulas = all_at (HasCellFormulas (notations_in b) (scene_in b)) index b.sheets s valid.formulas e;
  styles = all_at (λ (sheet : Sheet). HasGridStyles (length b.styles) sheet.grid) index b.sheets s valid.styles.numbers e;
  arrays = all_at (λ (sheet : Sheet). AreArrays held sheet.grid.contents) index b.sheets s valid.arrays e;
  merges = all_at (λ (sheet : Sheet). AreMerges held sheet.grid.contents sheet.grid.merges) index b.sheets s valid.merges e;
  layout = all_at HasLayout index b.sheets s valid.layout e;
  amounts = all_at HasAmounts index b.sheets s valid.amounts e;
}

-- more styles ----

number_more : (count more : ℕ) (o : Option ℕ) → count ≤ more → IsStyleNumber count o → IsStyleNumber more o
number_more count more None le h = tt
number_more count more (Some n) le h = omega (arith, le, h)

pub styles_more : (count more : ℕ) → count ≤ more → (grid : Grid) → HasGridStyles count grid → HasGridStyles more grid
styles_more count more le grid h = record {
  contents = λ place content e. let lt = h.contents place content e in omega (arith, le, lt);
  rows = λ row props e. number_more count more props.style le (h.rows row props e);
  columns = λ column props e. number_more count more props.style le (h.columns column props e);
}

-- another sheet with the same id and the same name ----

module _ (b : Book) (valid : IsValidBook b) (index : ℕ) (old new : Sheet) (at : slice_get b.sheets index ≡ Some old) (id : new.id ≡ old.id) (name : new.name ≡ old.name) (styles : List Style) where
  abbrev all : List Sheet
  all = updated_at (λ s. new) index b.sheets

  abbrev after : Book
  after = record (with_sheet b index new) { styles = styles }

  scene_same : scene_in after ≡ scene_in b
  scene_same = placed b index old new at (λ i. record { id = id i; name = name i })

  pub put_valid : AreStyles styles → length b.styles ≤ length styles → HoldsOf (notations_in b) (scene_in b) (length styles) new → IsValidBook after
  put_valid are more holds = record {
    sheets = record {
      some = subst (λ n. 0 < n) (sym (length_updated (λ (s : Sheet). new) index b.sheets)) valid.sheets.some;
      few = let few = valid.sheets.few in let same = length_updated (λ (s : Sheet). new) index b.sheets in omega (arith, few, same);
    };
    sheet_names = record {
      names = all_put (λ (s : Sheet). is_sheet_name s.name ≡ true) index b.sheets new valid.sheet_names.names
          (subst (λ (text : List ℕ). is_sheet_name text ≡ true) (sym name) (all_at (λ (s : Sheet). is_sheet_name s.name ≡ true) index b.sheets old valid.sheet_names.names at));
      differ = subst (IsDistinct agrees) (sym (unseen_put (λ (s : Sheet). s.name) index b.sheets old new at name)) valid.sheet_names.differ;
    };
    sheet_ids = record {
      ids = all_put (λ (s : Sheet). IsId s.id) index b.sheets new valid.sheet_ids.ids (subst IsId (sym id) (all_at (λ (s : Sheet). IsId s.id) index b.sheets old valid.sheet_ids.ids at));
      differ = subst (IsDistinct nat_eq) (sym (unseen_put (λ (s : Sheet). s.id) index b.sheets old new at id)) valid.sheet_ids.differ;
    };
    definitions = record { names = valid.definitions.names; scopes = valid.definitions.scopes; differ = valid.definitions.differ };
    kept = record {
      pools = subst (λ (scene : Scene). AllByRecursion (IsKeptPool (notations_in b) scene) all) (sym scene_same)
          (all_put (IsKeptPool (notations_in b) (scene_in b)) index b.sheets new valid.kept.pools holds.pool);
      bodies = subst (λ (scene : Scene). AllByRecursion (IsKeptBody (notations_in b) scene) b.definitions) (sym scene_same) valid.kept.bodies;
    };
    inside = all_put (λ (s : Sheet). AreInSheet held s.grid.contents) index b.sheets new valid.inside holds.inside;
    formulas = subst (λ (scene : Scene). AllByRecursion (HasCellFormulas (notations_in b) scene) all) (sym scene_same)
        (all_put (HasCellFormulas (notations_in b) (scene_in b)) index b.sheets new valid.formulas holds.formulas);
    styles = record {
      styles = are;
      numbers = all_put (λ (s : Sheet). HasGridStyles (length styles) s.grid) index b.sheets new
          (all_of (λ (s : Sheet). HasGridStyles (length b.styles) s.grid) (λ (s : Sheet). HasGridStyles (length styles) s.grid) (λ s h. styles_more (length b.styles) (length styles) more s.grid h) b.sheets valid.styles.numbers)
          holds.styles;
    };
    arrays = all_put (λ (s : Sheet). AreArrays held s.grid.contents) index b.sheets new valid.arrays holds.arrays;
    merges = all_put (λ (s : Sheet). AreMerges held s.grid.contents s.grid.merges) index b.sheets new valid.merges holds.merges;
    layout = all_put HasLayout index b.sheets new valid.layout holds.layout;
    amounts = all_put HasAmounts index b.sheets new valid.amounts holds.amounts;
    locale = valid.locale;
    language = valid.language;
    zone = valid.zone;
    tables = valid.tables;
  }

-- steps ----

pub stays_unless : (o : Option Refusal) (left : Book) (fields : List Field) → (o ≡ None → IsValidBook left) → StaysValid (unless o left fields)
stays_unless None left fields h = h refl
stays_unless (Some refusal) left fields h = tt

-- where it is asked of a command
pub by_asking : (t : Bool) (stepped : Stepped Book) → (t ≡ true → StaysValid stepped) → StaysValidIf t stepped
by_asking true stepped h = h refl
by_asking false stepped h = tt

pub stays_leaving : (b : Book) → IsValidBook b → (stepped : Stepped Book) → Leaves b stepped → StaysValid stepped
stays_leaving b valid (Ok done) h = subst IsValidBook (sym h) valid
stays_leaving b valid (Err refusal) h = tt

-- what a step on a tab, or on a grid, has to leave
abbrev pub TabStays : Stepped Tab → Type 0
TabStays (Ok done) = IsFrozen done.0
TabStays (Err refusal) = Unit {0}

pub record AreLines (count : ℕ) (rows : Rows) (columns : Columns) : Type 0 where
  pub row_styles : (row : ℤ) (props : RowProps) → finite.get rows row ≡ Some props → IsStyleNumber count props.style
  pub column_styles : (column : ℤ) (props : ColumnProps) → finite.get columns column ≡ Some props → IsStyleNumber count props.style
  pub rows_inside : (row : ℤ) (props : RowProps) → finite.get rows row ≡ Some props → is_row row ≡ true
  pub columns_inside : (column : ℤ) (props : ColumnProps) → finite.get columns column ≡ Some props → is_column column ≡ true

pub record HasNewLines (count : ℕ) (old new : Grid) : Type 0 where
  pub rows : Rows
  pub columns : Columns
  pub is : new ≡ record old { rows = rows; columns = columns }
  pub lines : AreLines count rows columns

abbrev pub LinesStay : ℕ → Grid → Stepped Grid → Type 0
LinesStay count grid (Ok done) = HasNewLines count grid done.0
LinesStay count grid (Err refusal) = Unit {0}

pub lines_of : (count : ℕ) (grid : Grid) → HasGridStyles count grid → HasLines grid → AreLines count grid.rows grid.columns
lines_of count grid h l = record { row_styles = h.rows; column_styles = h.columns; rows_inside = l.rows; columns_inside = l.columns }

module _ (b : Book) (valid : IsValidBook b) where
  stays_at : (index : ℕ) (o : Option Sheet) → slice_get b.sheets index ≡ o → (f : Sheet → Stepped Book) → ((s : Sheet) → slice_get b.sheets index ≡ Some s → StaysValid (f s)) → StaysValid (found_or InvalidSheet (option_map f o))
  stays_at index None e f h = tt
  stays_at index (Some s) e f h = h s e

  pub stays_found : (index : ℕ) (f : Sheet → Stepped Book) → ((s : Sheet) → slice_get b.sheets index ≡ Some s → StaysValid (f s)) → StaysValid (found_or InvalidSheet (option_map f (slice_get b.sheets index)))
  stays_found index f h = stays_at index (slice_get b.sheets index) refl f h

  -- the same styles
  pub same_styles : (index : ℕ) (old new : Sheet) → slice_get b.sheets index ≡ Some old → new.id ≡ old.id → new.name ≡ old.name → HoldsOf (notations_in b) (scene_in b) (length b.styles) new → IsValidBook (with_sheet b index new)
  same_styles index old new e id name holds = put_valid b valid index old new e id name b.styles valid.styles.styles (omega (arith)) holds

  tab_put : (index : ℕ) (s : Sheet) → slice_get b.sheets index ≡ Some s → (stepped : Stepped Tab) → TabStays stepped
      → StaysValid (put_in (with_sheet b index) (put_in (λ (tab : Tab). let new : Sheet = record s { tab = tab } in new) stepped))
  tab_put index s e (Err refusal) h = tt
  tab_put index s e (Ok done) h =
      let holds = holds_at b valid index s e in
      same_styles index s (record s { tab = done.0 }) e refl refl
      (record {
        pool = holds.pool;
        inside = holds.inside;
        formulas = holds.formulas;
        styles = holds.styles;
        arrays = holds.arrays;
        merges = holds.merges;
        layout = record { frozen = h; lines = holds.layout.lines };
        amounts = holds.amounts;
      })

  pub tabs_stay : (index : ℕ) (f : Tab → Stepped Tab) → ((tab : Tab) → IsFrozen tab → TabStays (f tab)) → StaysValid (on_tab b index f)
  unfolding on_tab
  tabs_stay index f h = stays_found index _ (λ s e. tab_put index s e (f s.tab) (h s.tab (holds_at b valid index s e).layout.frozen))

  pub lines_held : (scene : Scene) (count : ℕ) (s : Sheet) (rows : Rows) (columns : Columns) → HoldsOf (notations_in b) scene count s → (more : ℕ) → count ≤ more → AreLines more rows columns
      → HoldsOf (notations_in b) scene more (record s { grid = record s.grid { rows = rows; columns = columns } })
  lines_held scene count s rows columns holds more le lines = record {
    pool = holds.pool;
    inside = holds.inside;
    formulas = holds.formulas;
    styles = record { contents = (styles_more count more le s.grid holds.styles).contents; rows = lines.row_styles; columns = lines.column_styles };
    arrays = holds.arrays;
    merges = holds.merges;
    layout = record { frozen = holds.layout.frozen; lines = record { rows = lines.rows_inside; columns = lines.columns_inside } };
    amounts = holds.amounts;
  }

  grid_put : (index : ℕ) (s : Sheet) → slice_get b.sheets index ≡ Some s → (stepped : Stepped Grid) → LinesStay (length b.styles) s.grid stepped
      → StaysValid (put_in (with_sheet b index) (put_in (λ (grid : Grid). let new : Sheet = record s { grid = grid } in new) stepped))
  grid_put index s e (Err refusal) h = tt
  grid_put index s e (Ok done) h =
      subst (λ (grid : Grid). IsValidBook (with_sheet b index (record s { grid = grid }))) (sym h.is)
      (same_styles index s (record s { grid = record s.grid { rows = h.rows; columns = h.columns } }) e refl refl
      (lines_held (scene_in b) (length b.styles) s h.rows h.columns (holds_at b valid index s e) (length b.styles) (omega (arith)) h.lines))

  pub grids_stay : (index : ℕ) (f : Grid → Stepped Grid) → ((grid : Grid) → AreLines (length b.styles) grid.rows grid.columns → LinesStay (length b.styles) grid (f grid)) → StaysValid (on_grid b index f)
  unfolding on_grid
  grids_stay index f h =
      stays_found index _
      (λ s e. grid_put index s e (f s.grid) (h s.grid (lines_of (length b.styles) s.grid (holds_at b valid index s e).styles (holds_at b valid index s e).layout.lines)))

-- rows and columns ----

-- what stands at a place of a map with one more
put_at : {X : Type 0} (P : ℤ → X → Type 0) (m : finite.FinMap int_cmp X) (k : ℤ) (x : X) → P k x → ((q : ℤ) (y : X) → finite.get m q ≡ Some y → P q y)
    → (q : ℤ) (y : X) → finite.get (finite.insert m k x) q ≡ Some y → P q y
put_at {X} P m k x new old q y e =
    elim (cases_Bool (eq_by_cmp int_cmp q k)) [
      | inl t ↦
          let same : q ≡ k = int_cmp-IsAntisymmetric q k (is_equal (int_cmp q k) t) in
          let found : Some x ≡ Some y = ap (λ (c : Bool). cond c (Some x) (finite.get m q)) (sym t) ∙ sym (finite.get-insert int_cmp_total m k x q) ∙ e in
          let is : x ≡ y = cc in
          subst (λ (z : X). P q z) is (subst (λ (p : ℤ). P p x) (sym same) new)
      | inr f ↦ old q y (ap (λ (c : Bool). cond c (Some x) (finite.get m q)) (sym f) ∙ sym (finite.get-insert int_cmp_total m k x q) ∙ e)
    ]

module _ (count : ℕ) (rows : Rows) (columns : Columns) (lines : AreLines count rows columns) where
  pub row_put : (row : ℤ) (props : RowProps) → is_row row ≡ true → IsStyleNumber count props.style → AreLines count (finite.insert rows row props) columns
  row_put row props is style = record {
    row_styles = put_at (λ q p. IsStyleNumber count p.style) rows row props style lines.row_styles;
    column_styles = lines.column_styles;
    rows_inside = put_at (λ q p. is_row q ≡ true) rows row props is lines.rows_inside;
    columns_inside = lines.columns_inside;
  }

  pub column_put : (column : ℤ) (props : ColumnProps) → is_column column ≡ true → IsStyleNumber count props.style → AreLines count rows (finite.insert columns column props)
  column_put column props is style = record {
    row_styles = lines.row_styles;
    column_styles = put_at (λ q p. IsStyleNumber count p.style) columns column props style lines.column_styles;
    rows_inside = lines.rows_inside;
    columns_inside = put_at (λ q p. is_column q ≡ true) columns column props is lines.columns_inside;
  }
