-- What a call does that reads a cell of a sheet, or lists all cells.
use Rattle.std.proofs.Common.{◌≡◌, ◌++◌, ℕ, ℤ, ◌+◌, append_assoc, drop, List, [], ◌∷◌, Bool, T, true, false, ◌&&◌, map, Option, Some, None, Result, Ok, Err, IsErr, IsErrAnd, option_map, refl, ap, ap₂, sym, subst, ◌∙◌}
use Rattle.std.proofs.lemmas.Grind.{flat_map-append}
use Rattle.std.specs.Prelude.{flat_map}
use Rattle.std.specs.Borrow.{Bor}
use Rattle.std.specs.BTreeMap as tree
use Rattle.std.specs.BTreeMap.{BTreeMap}
use Rattle.std.specs.FinMap as finite
use Rattle.std.specs.FinMap.{is_sorted}
use Rattle.std.specs.FinMap.Entries.{below_all}
use Rattle.std.specs.List.{AllByRecursion, enumerate_from, slice_get}
use Rattle.std.specs.List.Sorted.{IsStrictlySortedBy}
use Rattle.std.specs.Option.{option_copied, option_map_or}
use Rattle.std.specs.Ordering.{is_lt}
use Rattle.std.specs.declared.cmp.Ordering.TheVariants.{Less}
use Rattle.ic_laws.proofs.core.CellWritten.{place_cmp_total, place_tied}
use Rattle.ic_laws.specs.CoreBook.{CellPlace}
use Rattle.ic_laws.specs.Notations.{english}
use Rattle.ic_tables.specs.Tables.{language_of, locale_of}
use Rattle.ic_tables.specs.declared.language.Language.{Language}
use Rattle.ic_tables.specs.declared.locale.NamedLocale.{NamedLocale}
use Rattle.ic_cells.specs.Cell.{type_of, value_of}
use Rattle.ic_cells.specs.Maps.{place_cmp}
use Rattle.ic_cells.specs.declared.cell.Cell.{Cell}
use Rattle.ic_cells.specs.declared.cell.Cell.TheVariants as cells
use Rattle.ic_cells.specs.declared.sheet.CellIndex.{CellIndex}
use Rattle.ic_cells.specs.declared.value.CellType.{CellType}
use Rattle.ic_cells.specs.declared.value.CellType.TheVariants as types
use Rattle.ic_cells.specs.declared.value.CellValue.{CellValue}
use Rattle.ic_cells.specs.declared.value.CellValue.TheVariants as values
use Rattle.ic_grid.specs.Contents.{Contents}
use Rattle.ic_grid.specs.Shape.{is_empty, shape_of}
use Rattle.ic_machine.proofs.contents.AlikeGrid.{entries-seen, get-seen}
use Rattle.ic_machine.proofs.contents.AlikeLemmas.{cells_are_contents}
use Rattle.ic_machine.specs.Book as machine
use Rattle.ic_machine.specs.Content as contents
use Rattle.ic_machine.specs.Content.{Content, content_of}
use Rattle.ic_machine.specs.Fields.{fields_of_place, type_field}
use Rattle.ic_machine.specs.InForce.{InForce, all_there, by_notation, value_in}
use Rattle.ic_machine.specs.Reply.{Field, bool_field}
use Rattle.ic_machine.specs.subjects.Reading.{empty_step, place_fields, read_sheet, sheet_places, type_step, value_at, value_fields, value_step}
use Rattle.ic_sheets.specs.Sheet.{Sheet, sheet_of}
use Rattle.ic_sheets.specs.declared.sheet.Sheet.{Sheet as HeldSheet}
use Rattle.ic_parts.specs.Book.{Book, IsValidBook, ModelState}
use Rattle.ic_parts.specs.Cells.{FindsCell, place_in, places_from}
use Rattle.ic_parts.specs.Does.{DoesStep, Memory, Never, Wanted}
use Rattle.ic_parts.specs.Whole.{whole_of, whole_sheet}
use Rattle.ic_parts.specs.declared.error.BookError.{BookError}
use Rattle.ic_parts.specs.declared.error.BookError.TheVariants as errors
use Rattle.ic_parts.proofs.ReadLemmas.{sheet_missing, sheet_told, sheet_wants}
use Rattle.ic_parts.proofs.WholeWritten.{in_force_there}

-- what is so of each error of a kind is so of an answer that is one
pub of_error : {T : Type 0} {Q : BookError → Type 0} (P : Result T BookError → Type 0) (r : Result T BookError) → IsErr r × IsErrAnd r Q → ((e : BookError) → Q e → P (Err e)) → P r
of_error P (Ok value) h each = let no : false ≡ true = h.0 in cc
of_error P (Err e) h each = each e h.1

-- a cell and its content are the same to readers ----

pub value_same : (strings : List (List ℕ)) (l : Language) (cell : Cell) → contents.value_of l (content_of strings cell) ≡ value_of strings l cell
value_same strings l (cells.EmptyCell s) = refl
value_same strings l (cells.BooleanCell v s) = refl
value_same strings l (cells.NumberCell v s) = refl
value_same strings l (cells.ErrorCell e s) = refl
value_same strings l (cells.SharedString i s) = refl
value_same strings l (cells.CellFormula f s v) = refl
value_same strings l (cells.ArrayFormula kind f s r v) = refl
value_same strings l (cells.SpillCell s a v) = refl

type_same : (strings : List (List ℕ)) (cell : Cell) → contents.type_of (content_of strings cell) ≡ type_of cell
type_same strings (cells.EmptyCell s) = refl
type_same strings (cells.BooleanCell v s) = refl
type_same strings (cells.NumberCell v s) = refl
type_same strings (cells.ErrorCell e s) = refl
type_same strings (cells.SharedString i s) = refl
type_same strings (cells.CellFormula f s v) = refl
type_same strings (cells.ArrayFormula kind f s r v) = refl
type_same strings (cells.SpillCell s a v) = refl

-- what is read of a content, where as much is read of its cell
module _ {A : Type 0} (strings : List (List ℕ)) (one : Cell → A) (other : Content → A) (same : (x : Cell) → other (content_of strings x) ≡ one x) (none : A) where
  seen_or : (o : Option Cell) → option_map_or other (option_map (content_of strings) o) none ≡ option_map_or one o none
  seen_or None = refl
  seen_or (Some x) = same x

  pub read_same : (s : Sheet) (row column : ℤ) → option_map_or other (machine.content_at (whole_sheet strings s) row column) none ≡ option_map_or one (finite.get s.grid.cells (row, column)) none
  read_same s row column = ap (λ o. option_map_or other o none) (get-seen (content_of strings) s.grid.cells (row, column)) ∙ seen_or (finite.get s.grid.cells (row, column))

-- the value of a content in the language of the model
language_in : (locale : Option NamedLocale) (language beside : Option Language) (f : InForce) → all_there locale language beside ≡ Some f → language ≡ Some f.language
language_in None language beside f e = cc
language_in (Some l) None beside f e = cc
language_in (Some l) (Some language) None f e = cc
language_in (Some l) (Some language) (Some beside) f e = let same : record { locale = l.locale; language = language; beside = beside } ≡ f = cc in ap (λ (f : InForce). let o : Option Language = Some f.language in o) same

pub value_in_force : (book : Book) → IsValidBook book → (l : Language) → language_of book.tables book.language ≡ Some l → (x : Cell) → value_in (whole_of book) (content_of book.strings x) ≡ value_of book.strings l x
value_in_force book valid l found x =
    let there = in_force_there book valid in
    let its : Some there.0.language ≡ Some l = sym (language_in (locale_of book.tables book.locale) (language_of book.tables book.language) (language_of book.tables english) there.0 there.1) ∙ found in
    let same : there.0.language ≡ l = cc in
    ap (λ (o : Option InForce). by_notation values.None (λ (f : InForce). contents.value_of f.language (content_of book.strings x)) o) there.1
    ∙ value_same book.strings there.0.language x ∙ ap (λ l. value_of book.strings l x) same

pub type_read : (strings : List (List ℕ)) (s : Sheet) (row column : ℤ) → option_map_or contents.type_of (machine.content_at (whole_sheet strings s) row column) types.Number ≡ option_map_or type_of (finite.get s.grid.cells (row, column)) types.Number
type_read strings = read_same strings type_of contents.type_of (type_same strings) types.Number

pub empty_read : (strings : List (List ℕ)) (s : Sheet) (row column : ℤ)
    → option_map_or (λ (x : Content). is_empty (contents.shape_of x)) (machine.content_at (whole_sheet strings s) row column) true ≡ option_map_or (λ x. is_empty (shape_of x)) (finite.get s.grid.cells (row, column)) true
empty_read strings = read_same strings (λ x. is_empty (shape_of x)) (λ x. is_empty (contents.shape_of x)) (λ x. ap is_empty ((cells_are_contents strings).shape x)) true

-- a reader of a cell ----

module _ (now : ModelState) (valid : IsValidBook now.book) (index : ℕ) (row column : ℤ) {T A : Type 0} (fields : T → List Field) (as_field : A → List Field) (told : machine.Sheet → A) (of_cell : Option Cell → A)
    (same : (s : Sheet) → told (whole_sheet now.book.strings s) ≡ of_cell (finite.get s.grid.cells (row, column)))
  where
    abbrev its_fields : machine.Sheet → List Field
    its_fields sheet = as_field (told sheet)

    pub cell_told : (memory : Memory) (cell : Option (Bor Cell)) → FindsCell index row column (Ok cell) now → (value : T) → fields value ≡ as_field (of_cell (option_copied cell))
        → DoesStep memory (read_sheet (whole_of now.book) index (λ sheet. as_field (told sheet))) fields (Ok value) now now
    cell_told memory cell found value e =
        sheet_told now index valid memory fields [] its_fields found.0 found.1 refl value (e ∙ ap (λ o. as_field (of_cell o)) found.2 ∙ sym (ap as_field (same found.0)))

-- all places ----

both : (a b : Bool) → T a → T b → T (a && b)
both true b p q = q
both false b p q = p

-- an ordered map has the places of the finite map that contracts see, in the same order
module _ {X : Type 0} where
  below : (x : CellPlace) (es : List (CellPlace × X)) → AllByRecursion (λ y. place_cmp x y ≡ Less) (map (λ (e : CellPlace × X). e.0) es) → T (below_all place_cmp x es)
  below x [] h = tt
  below x (e ∷ es) h = both (is_lt (place_cmp x e.0)) (below_all place_cmp x es) (subst (λ r. T (is_lt r)) (sym h.0) tt) (below x es h.1)

  sorted : (es : List (CellPlace × X)) → IsStrictlySortedBy place_cmp (map (λ (e : CellPlace × X). e.0) es) → T (is_sorted place_cmp es)
  unfolding IsStrictlySortedBy
  sorted [] h = tt
  sorted (e ∷ es) h = both (below_all place_cmp e.0 es) (is_sorted place_cmp es) (below e.0 es h.0) (sorted es h.1)

  entries_back : (es : List (CellPlace × X)) → IsStrictlySortedBy place_cmp (map (λ (e : CellPlace × X). e.0) es) → finite.entries (finite.from_entries {R = place_cmp} es) ≡ es
  entries_back es h =
      ap finite.entries (finite.same_map place_cmp_total place_tied (finite.from_entries {R = place_cmp} es) (finite.from_sorted {R = place_cmp} es)
      (λ q. finite.get-from_entries place_cmp_total es q ∙ sym (finite.get-from_sorted place_cmp es q (sorted es h))))
      ∙ finite.entries-from_sorted place_cmp es (sorted es h)

  pub same_entries : (m : BTreeMap CellPlace X) (v : Contents X) → tree.IsOrdered place_cmp m → finite.from_entries m.entries ≡ v → m.entries ≡ finite.entries v
  same_entries m v ordered e = sym (entries_back m.entries ordered) ∙ ap finite.entries e

  pub same_keys : (m : BTreeMap CellPlace X) (v : Contents X) → tree.IsOrdered place_cmp m → finite.from_entries m.entries ≡ v → tree.keys m ≡ finite.keys v
  same_keys m v ordered e = ap (map (λ (e : CellPlace × X). e.0)) (same_entries m v ordered e)

-- all places are told as the machine tells them
module _ (strings : List (List ℕ)) where
  sheet_told_same : (index : ℕ) (es : List (CellPlace × Cell)) → flat_map fields_of_place (map (place_in index) (map (λ (e : CellPlace × Cell). e.0) es))
      ≡ flat_map (place_fields index) (map (λ (e : CellPlace × Cell). let read : CellPlace × Content = (e.0, content_of strings e.1) in read) es)
  sheet_told_same index [] = refl
  sheet_told_same index (e ∷ es) = ap (λ (rest : List Field). fields_of_place (place_in index e.0) ++ rest) (sheet_told_same index es)

  pub places_told : (index : ℕ) (ws : List HeldSheet) → flat_map fields_of_place (places_from index ws) ≡ flat_map sheet_places (enumerate_from index (map (whole_sheet strings) (map sheet_of ws)))
  places_told index [] = refl
  places_told index (s ∷ ws) =
      flat_map-append fields_of_place (map (place_in index) (finite.keys s.grid.cells)) (places_from (index + 1) ws)
      ∙ ap₂ (λ (a b : List Field). a ++ b) (sheet_told_same index (finite.entries s.grid.cells) ∙ ap (flat_map (place_fields index)) (sym (entries-seen (content_of strings) s.grid.cells))) (places_told (index + 1) ws)

-- the places of a sheet more
pub places_next : (all items new : List CellIndex) (index : ℕ) (ws : List HeldSheet) (s : HeldSheet) (places : List CellPlace) → drop index ws ≡ s ∷ drop (index + 1) ws
    → items ++ places_from index (drop index ws) ≡ all → new ≡ items ++ map (place_in index) places → places ≡ finite.keys s.grid.cells → new ++ places_from (index + 1) (drop (index + 1) ws) ≡ all
places_next all items new index ws s places left so_far put keys =
    ap (λ xs. xs ++ places_from (index + 1) (drop (index + 1) ws)) (put ∙ ap (λ ks. items ++ map (place_in index) ks) keys)
    ∙ append_assoc items (map (place_in index) (finite.keys s.grid.cells)) (places_from (index + 1) (drop (index + 1) ws))
    ∙ ap (λ rest. items ++ places_from index rest) (sym left) ∙ so_far

-- a cell that is found at a place, which is this one
pub found_there : (now : ModelState) (index : ℕ) (row column : ℤ) (cell : Option (Bor Cell)) (place : CellPlace) → place ≡ (row, column)
    → (x : Sheet) × (slice_get now.book.sheets index ≡ Some x) × (option_copied cell ≡ finite.get x.grid.cells place) → FindsCell index row column (Ok cell) now
found_there now index row column cell place same found = (found.0, found.1, found.2 ∙ ap (finite.get found.0.grid.cells) same)

-- the readers of a place ----

module _ (now : ModelState) (valid : IsValidBook now.book) (index : ℕ) (row column : ℤ) where
  pub tells_empty : (cell : Option (Bor Cell)) → FindsCell index row column (Ok cell) now → (value : Bool) → value ≡ option_map_or (λ x. is_empty (shape_of x)) (option_copied cell) true
      → DoesStep Never (empty_step index (row, column) (whole_of now.book)) bool_field (Ok value) now now
  unfolding empty_step
  tells_empty cell found value e =
      cell_told now valid index row column bool_field bool_field (λ sheet. option_map_or (λ (x : Content). is_empty (contents.shape_of x)) (machine.content_at sheet row column) true) (λ o. option_map_or (λ x. is_empty (shape_of x)) o true)
      (λ s. empty_read now.book.strings s row column) Never cell found value (ap bool_field e)

  pub lacks_empty : (r : Result Bool BookError) (e : BookError) → IsErr r × IsErrAnd r (λ f. f ≡ e) → FindsCell index row column (Err e) now → DoesStep Never (empty_step index (row, column) (whole_of now.book)) bool_field r now now
  unfolding empty_step
  lacks_empty r e h found =
      of_error (λ r. DoesStep Never (empty_step index (row, column) (whole_of now.book)) bool_field r now now) r h
      (λ f same. sheet_missing now index valid Never bool_field [] (λ sheet. bool_field (option_map_or (λ (x : Content). is_empty (contents.shape_of x)) (machine.content_at sheet row column) true)) found.0 f (same ∙ found.1))

  pub tells_type : (cell : Option (Bor Cell)) → FindsCell index row column (Ok cell) now → (value : CellType) → value ≡ option_map_or type_of (option_copied cell) types.Number
      → DoesStep Never (type_step index (row, column) (whole_of now.book)) type_field (Ok value) now now
  unfolding type_step
  tells_type cell found value e =
      cell_told now valid index row column type_field type_field (λ sheet. option_map_or contents.type_of (machine.content_at sheet row column) types.Number) (λ o. option_map_or type_of o types.Number)
      (λ s. type_read now.book.strings s row column) Never cell found value (ap type_field e)

  pub lacks_type : (r : Result CellType BookError) (e : BookError) → IsErr r × IsErrAnd r (λ f. f ≡ e) → FindsCell index row column (Err e) now → DoesStep Never (type_step index (row, column) (whole_of now.book)) type_field r now now
  unfolding type_step
  lacks_type r e h found =
      of_error (λ r. DoesStep Never (type_step index (row, column) (whole_of now.book)) type_field r now now) r h
      (λ f same. sheet_missing now index valid Never type_field [] (λ sheet. type_field (option_map_or contents.type_of (machine.content_at sheet row column) types.Number)) found.0 f (same ∙ found.1))

  module _ (l : Language) (in_force : language_of now.book.tables now.book.language ≡ Some l) where
    value_read : (s : Sheet) → value_at (whole_of now.book) (whole_sheet now.book.strings s) (row, column) ≡ option_map_or (value_of now.book.strings l) (finite.get s.grid.cells (row, column)) values.None
    value_read s = read_same now.book.strings (value_of now.book.strings l) (value_in (whole_of now.book)) (λ x. value_in_force now.book valid l in_force x) values.None s row column

    pub tells_value : (cell : Option (Bor Cell)) → FindsCell index row column (Ok cell) now → (value : CellValue) → value ≡ option_map_or (value_of now.book.strings l) (option_copied cell) values.None
        → DoesStep Wanted (value_step index (row, column) (whole_of now.book)) value_fields (Ok value) now now
    unfolding value_step
    tells_value cell found value e =
        cell_told now valid index row column value_fields value_fields (λ sheet. value_at (whole_of now.book) sheet (row, column)) (λ o. option_map_or (value_of now.book.strings l) o values.None) value_read Wanted cell found value (ap value_fields e)

  pub lacks_value : (r : Result CellValue BookError) (e : BookError) → IsErr r × IsErrAnd r (λ f. f ≡ e) → FindsCell index row column (Err e) now → DoesStep Wanted (value_step index (row, column) (whole_of now.book)) value_fields r now now
  unfolding value_step
  lacks_value r e h found =
      of_error (λ r. DoesStep Wanted (value_step index (row, column) (whole_of now.book)) value_fields r now now) r h
      (λ f same. sheet_missing now index valid Wanted value_fields [] (λ sheet. value_fields (value_at (whole_of now.book) sheet (row, column))) found.0 f (same ∙ found.1))

  pub wants_value : (cell : Option (Bor Cell)) → FindsCell index row column (Ok cell) now → (r : Result CellValue BookError) → IsErr r × IsErrAnd r (λ f. f ≡ errors.OutOfMemory) → DoesStep Wanted (value_step index (row, column) (whole_of now.book)) value_fields r now now
  unfolding value_step
  wants_value cell found r h =
      of_error (λ r. DoesStep Wanted (value_step index (row, column) (whole_of now.book)) value_fields r now now) r h
      (λ f out. sheet_wants now index valid value_fields [] (λ sheet. value_fields (value_at (whole_of now.book) sheet (row, column))) found.0 found.1 refl f out)
