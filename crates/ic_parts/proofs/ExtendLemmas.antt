-- What the calls do that write a formula or a value of one cell out for another.
use Rattle.std.proofs.Common.{◌≡◌, ◌++◌, ℕ, zero, suc, ℤ, List, [], ◌∷◌, Bool, true, false, not, nat_lt, length, Option, Some, None, Result, Ok, Err, IsErr, IsErrAnd, option_map, chars, string_bytes, String, if◌then◌else◌, refl, sym, ap, ap₂, subst, ◌∙◌, inl, inr, rules, arith, le-ltb as no_less}
use Rattle.std.specs.Prelude.{is_none, option_and_then}
use Rattle.std.specs.FinMap as finite
use Rattle.std.specs.List.{slice_get}
use Rattle.std.specs.Option.{option_map_or, option_or}
use Rattle.std.specs.declared.alloc.Global.{Global}
use Rattle.std.proofs.lemmas.Option.{slice_get-map}
use Rattle.ic_laws.specs.Binding.{bound, spelled}
use Rattle.ic_laws.specs.Character.{dot, equals}
use Rattle.ic_laws.specs.CoreBook.{CellPlace, CoreBook, formula_at, scene_of}
use Rattle.ic_laws.specs.FormulaReading.{shown_at, shown_formula}
use Rattle.ic_laws.specs.Notations.{english, english_function}
use Rattle.ic_laws.specs.ReadAs.{read_as}
use Rattle.ic_laws.specs.Reading.{printed}
use Rattle.ic_laws.specs.Tree.{Spelled}
use Rattle.ic_laws.specs.declared.tree.Formula.{Formula}
use Rattle.ic_refs.specs.declared.reference.CellReferenceIndex.{CellReferenceIndex}
use Rattle.ic_tables.specs.Formats.{decimal_separator}
use Rattle.ic_tables.specs.Tables.{language_of, locale_of}
use Rattle.ic_tables.specs.declared.language.Language.{Language}
use Rattle.ic_tables.specs.declared.locale.Locale.{Locale}
use Rattle.ic_tables.specs.declared.locale.NamedLocale.{NamedLocale}
use Rattle.ic_cells.specs.Cell.{value_of}
use Rattle.ic_cells.specs.Cell as cells
use Rattle.ic_cells.specs.Value.{shown_text}
use Rattle.ic_cells.specs.declared.cell.Cell.{Cell}
use Rattle.ic_input.specs.Typed.{formula_of}
use Rattle.ic_machine.proofs.contents.AlikeGrid.{get-seen}
use Rattle.ic_machine.specs.Book as machine
use Rattle.ic_machine.specs.Book.{Stepped, content_at, lacks_sheet, unless}
use Rattle.ic_machine.specs.Content as contents
use Rattle.ic_machine.specs.Content.{content_of}
use Rattle.ic_machine.specs.InForce.{InForce, all_there, by_notation, formula_typed, in_force}
use Rattle.ic_machine.specs.Refusal.{Causes, InvalidFormula, InvalidSheet, Refusal, first_refusal}
use Rattle.ic_machine.specs.Reply.{Field, text_field}
use Rattle.ic_machine.specs.subjects.Extending.{CellOf, cell_of, copied_text, copied_tree, extend_copied_step, extend_step, extended, localized_text, reads_not, source_id, tree_extended}
use Rattle.ic_machine.specs.subjects.Notation.{settings_fields}
use Rattle.ic_machine.specs.subjects.Reading.{formula_text}
use Rattle.ic_sheets.specs.Sheet.{HasIndexes, IsValidPool, Sheet, cells_of, formula_in}
use Rattle.ic_parts.specs.Book.{IsValidBook, ModelState, core_of, notations_in, scene_in}
use Rattle.ic_parts.specs.Does.{DoesStep, IsDone, Refused, Wanted, Wants, WantedOrWhole}
use Rattle.ic_parts.specs.Extended.{CopiesFormula, cell_at, cells_causes, inside_causes, tree_at, tree_shown, value_text}
use Rattle.ic_parts.specs.Fields.{string_only}
use Rattle.ic_parts.specs.Refused.{refusal_of}
use Rattle.ic_parts.specs.Whole.{whole_of, whole_sheet}
use Rattle.ic_parts.specs.declared.error.BookError.{BookError}
use Rattle.ic_parts.specs.declared.error.BookError.TheVariants as errors
use Rattle.ic_parts.proofs.BookValid.{pools_valid}
use Rattle.ic_parts.proofs.CellReads.{value_same}
use Rattle.ic_parts.proofs.ModelLemmas.{formula_by_cell}
use Rattle.ic_parts.proofs.ReadLemmas.{sheet_told}
use Rattle.ic_parts.proofs.WholeLemmas.{index_seen, whole_core}
use Rattle.ic_parts.proofs.WholeWritten.{in_force_there}
use Rattle.ic_parts.proofs.WrittenLemmas.{one_of_all}

-- whether a sheet stands at an index ----

first_less : (k : ℕ) → nat_lt zero (suc k) ≡ true
first_less k = search (rules, arith)

same_less : (m k : ℕ) → nat_lt (suc m) (suc k) ≡ nat_lt m k
same_less m k = search (rules, arith)

pub none_past : {A : Type 0} (xs : List A) (i : ℕ) → slice_get xs i ≡ None → nat_lt i (length xs) ≡ false
none_past [] i e = no_less i zero (omega arith)
none_past (x ∷ xs) zero e = cc
none_past (x ∷ xs) (suc i) e = same_less i (length xs) ∙ none_past xs i e

pub some_within : {A : Type 0} (xs : List A) (i : ℕ) (x : A) → slice_get xs i ≡ Some x → nat_lt i (length xs) ≡ true
some_within [] i x e = cc
some_within (y ∷ xs) zero x e = first_less (length xs)
some_within (y ∷ xs) (suc i) x e = same_less i (length xs) ∙ some_within xs i x e

-- what refuses two cells ----

module _ (now : ModelState) (source target : CellReferenceIndex) where
  lacks : (i : ℕ) → slice_get now.book.sheets i ≡ None → lacks_sheet (whole_of now.book) i ≡ true
  lacks i none =
      ap not (none_past (whole_of now.book).sheets i (slice_get-map (whole_sheet now.book.strings) now.book.sheets i ∙ ap (option_map (whole_sheet now.book.strings)) none))

  stands : (i : ℕ) (s : Sheet) → slice_get now.book.sheets i ≡ Some s → lacks_sheet (whole_of now.book) i ≡ false
  stands i s at =
      ap not (some_within (whole_of now.book).sheets i (whole_sheet now.book.strings s) (slice_get-map (whole_sheet now.book.strings) now.book.sheets i ∙ ap (option_map (whole_sheet now.book.strings)) at))

  abbrev refused_by : Bool → Bool → Option Refusal
  refused_by first second = first_refusal ((first, InvalidSheet) ∷ (second, InvalidSheet) ∷ inside_causes source target)

  pub source_lacks : slice_get now.book.sheets source.sheet ≡ None → first_refusal (cells_causes now.book source target) ≡ Some InvalidSheet
  source_lacks none = ap (λ b. refused_by b (lacks_sheet (whole_of now.book) target.sheet)) (lacks source.sheet none)

  module _ (s : Sheet) (at : slice_get now.book.sheets source.sheet ≡ Some s) where
    pub target_lacks : slice_get now.book.sheets target.sheet ≡ None → first_refusal (cells_causes now.book source target) ≡ Some InvalidSheet
    target_lacks none = ap₂ refused_by (stands source.sheet s at) (lacks target.sheet none)

    pub sheets_stand : (t : Sheet) → slice_get now.book.sheets target.sheet ≡ Some t → first_refusal (cells_causes now.book source target) ≡ first_refusal (inside_causes source target)
    sheets_stand t there = ap₂ refused_by (stands source.sheet s at) (stands target.sheet t there)

-- the formulas of a sheet's cells are of its pool
pub places_at : (now : ModelState) → IsValidBook now.book → (index : ℕ) (s : Sheet) → slice_get now.book.sheets index ≡ Some s → HasIndexes (length s.pool) s.grid
places_at now valid index s at = (one_of_all (IsValidPool (notations_in now.book) (scene_in now.book)) index now.book.sheets s at (pools_valid now.book valid)).indexes

-- what is told of a cell of a sheet, in another
abbrev pub extended_told : machine.Book → ℤ → ℤ → CellPlace → machine.Sheet → List Field
extended_told book row column target sheet = text_field (option_map_or (extended book sheet target) (content_at sheet row column) [])

-- one more cause, after others
pub first_later : (causes : Causes) (b : Bool) (r : Refusal) → first_refusal causes ≡ None → first_refusal (causes ++ (b, r) ∷ []) ≡ (if b then Some r else None)
first_later [] b r e = refl
first_later ((true, q) ∷ cs) b r e = cc
first_later ((false, q) ∷ cs) b r e = first_later cs b r e

pub first_earlier : (causes more : Causes) (r : Refusal) → first_refusal causes ≡ Some r → first_refusal (causes ++ more) ≡ Some r
first_earlier [] more r e = cc
first_earlier ((true, q) ∷ cs) more r e = e
first_earlier ((false, q) ∷ cs) more r e = first_earlier cs more r e

-- The locale and the language in force are those of the model. ----

in_force_is : (locale : Option NamedLocale) (language beside : Option Language) (f : InForce) → all_there locale language beside ≡ Some f → (l : NamedLocale) → locale ≡ Some l → (g : Language) → language ≡ Some g
    → (f.locale ≡ l.locale) × (f.language ≡ g)
in_force_is None language beside f e l one g two = cc
in_force_is (Some m) None beside f e l one g two = cc
in_force_is (Some m) (Some h) None f e l one g two = cc
in_force_is (Some m) (Some h) (Some b) f e l one g two =
    let same : record { locale = m.locale; language = h; beside = b } ≡ f = cc in
    let its : m ≡ l = cc in
    let words : h ≡ g = cc in
    (ap (λ (f : InForce). f.locale) (sym same) ∙ ap (λ (n : NamedLocale). n.locale) its, ap (λ (f : InForce). f.language) (sym same) ∙ words)

module _ (now : ModelState) (valid : IsValidBook now.book) (l : NamedLocale) (g : Language) (found : locale_of now.book.tables now.book.locale ≡ Some l) (spoken : language_of now.book.tables now.book.language ≡ Some g) where
  abbrev whole : machine.Book
  whole = whole_of now.book

  abbrev strings : List (List ℕ)
  strings = now.book.strings

  there : (f : InForce) × (in_force whole ≡ Some f)
  there = in_force_there now.book valid

  its : (there.0.locale ≡ l.locale) × (there.0.language ≡ g)
  its =
      in_force_is (locale_of now.book.tables now.book.locale) (language_of now.book.tables now.book.language) (language_of now.book.tables english) there.0 there.1 l found g spoken

  -- the formats of the locale in force
  pub settings_told : by_notation [] (λ f. settings_fields f.locale) (in_force (whole_of now.book)) ≡ settings_fields l.locale
  settings_told = ap (λ (o : Option InForce). by_notation [] (λ f. settings_fields f.locale) o) there.1 ∙ ap settings_fields its.0

  text_is : (x : Cell) → localized_text whole (content_of strings x) ≡ shown_text (decimal_separator l.locale) g (value_of strings g x)
  text_is x =
      ap (λ (o : Option InForce). by_notation [] (λ f. shown_text (by_notation dot (λ h. decimal_separator h.locale) o) f.language (contents.value_of f.language (content_of strings x))) o) there.1
      ∙ ap (shown_text (decimal_separator there.0.locale) there.0.language) (value_same strings there.0.language x)
      ∙ ap₂ (λ (locale : Locale) (language : Language). shown_text (decimal_separator locale) language (value_of strings language x)) its.0 its.1

  -- a cell in another ----

  module _ (index : ℕ) (row column : ℤ) (target : CellPlace) (s : Sheet) (at : slice_get now.book.sheets index ≡ Some s) where
    abbrev seen : machine.Sheet
    seen = whole_sheet strings s

    abbrev held : Option Cell
    held = finite.get s.grid.cells (row, column)

    abbrev told : machine.Sheet → List Field
    told = extended_told whole row column target

    content_is : option_map_or (extended whole seen target) (content_at seen row column) [] ≡ option_map_or (extended whole seen target) (option_map (content_of strings) held) []
    content_is = ap (λ o. option_map_or (extended whole seen target) o []) (get-seen (content_of strings) s.grid.cells (row, column))

    by_formula : (x : Cell) (o : Option Formula) → option_map (formula_in s.pool) (cells.cell_formula_index x) ≡ o
        → extended whole seen target (content_of strings x) ≡ option_map_or (formula_text whole target) o (localized_text whole (content_of strings x))
    by_formula x o e =
        ap (λ (i : Option ℕ). option_map_or (formula_text whole target) (option_map (formula_in s.pool) i) (localized_text whole (content_of strings x))) (index_seen strings x)
        ∙ ap (λ (o : Option Formula). option_map_or (formula_text whole target) o (localized_text whole (content_of strings x))) e

    with_formula : (o : Option Cell) (f : Formula) → option_map (formula_in s.pool) (option_and_then cells.cell_formula_index o) ≡ Some f → option_map_or (extended whole seen target) (option_map (content_of strings) o) [] ≡ formula_text whole target f
    with_formula None f e = cc
    with_formula (Some x) f e = by_formula x (Some f) e

    without_formula : (o : Option Cell) → option_map (formula_in s.pool) (option_and_then cells.cell_formula_index o) ≡ None → option_map_or (extended whole seen target) (option_map (content_of strings) o) [] ≡ value_text strings l.locale g o
    without_formula None e = refl
    without_formula (Some x) e = by_formula x None e ∙ text_is x

    its_formula : (o : Option Formula) → formula_at (cells_of s.pool (finite.entries s.grid.cells)) row column ≡ o → option_map (formula_in s.pool) (option_and_then cells.cell_formula_index held) ≡ o
    its_formula o e = sym (formula_by_cell s.pool s.grid.cells row column) ∙ e

    pub extends_formula : (f : Formula) → formula_at (cells_of s.pool (finite.entries s.grid.cells)) row column ≡ Some f → (text : String Global)
        → chars (string_bytes text) ≡ equals ∷ shown_formula (notations_in now.book) (core_of now.book) target.0 target.1 f
        → DoesStep Wanted (extend_step (cell_of index row column) target (whole_of now.book)) string_only (Ok text) now now
    unfolding extend_step
    extends_formula f is text shown =
        sheet_told now index valid Wanted string_only [] told s at refl text
        (ap text_field
        (shown ∙ ap (λ c. equals ∷ shown_formula (notations_in now.book) c target.0 target.1 f) (sym (whole_core now.book))
        ∙ sym (content_is ∙ with_formula held f (its_formula (Some f) is))))

    pub extends_value : formula_at (cells_of s.pool (finite.entries s.grid.cells)) row column ≡ None → (text : String Global) → chars (string_bytes text) ≡ value_text strings l.locale g held
        → DoesStep Wanted (extend_step (cell_of index row column) target (whole_of now.book)) string_only (Ok text) now now
    unfolding extend_step
    extends_value none text shown =
        sheet_told now index valid Wanted string_only [] told s at refl text (ap text_field (shown ∙ sym (content_is ∙ without_formula held (its_formula None none))))

  -- a copied text ----

  module _ (source target : CellReferenceIndex) (text : List ℕ) where
    abbrev from : CellOf
    from = cell_at source

    abbrev to : CellOf
    to = cell_at target

    abbrev Copies : Result (String Global) BookError → Type 0
    Copies r = DoesStep (WantedOrWhole InvalidFormula) (extend_copied_step text from to whole) string_only r now now

    pub copies_refused : (e : BookError) → (told : Refusal) × (refusal_of e ≡ Some told) × (first_refusal (cells_causes now.book source target) ≡ Some told)
        → (r : Result (String Global) BookError) → IsErr r × IsErrAnd r (λ f. f ≡ e) → DoesStep (WantedOrWhole InvalidFormula) (extend_copied_step text (cell_at source) (cell_at target) (whole_of now.book)) string_only r now now
    unfolding extend_copied_step
    copies_refused e h (Ok value) is = let no : false ≡ true = is.0 in cc
    copies_refused e h (Err f) is = record {
      done =
          subst (Refused (WantedOrWhole InvalidFormula) (extend_copied_step text from to whole) now now) (sym (ap refusal_of is.1 ∙ h.1)) (
            ap (λ o. unless o whole (text_field (copied_text whole from to text (formula_typed whole text)))) (first_earlier (cells_causes now.book source target) ((reads_not whole from to (formula_typed whole text), InvalidFormula) ∷ []) h.0 h.2),
            refl,
          );
      before = valid;
      after = valid;
    }

    module _ (accepted : first_refusal (cells_causes now.book source target) ≡ None) where
      abbrev step_by : Option (List ℕ) → Stepped machine.Book
      step_by o = unless (if reads_not whole from to o then Some InvalidFormula else None) whole (text_field (copied_text whole from to text o))

      step_is : (o : Option (List ℕ)) → formula_of l.locale text ≡ o → extend_copied_step text from to whole ≡ step_by o
      unfolding extend_copied_step
      step_is o e =
          ap (λ r. unless r whole (text_field (copied_text whole from to text (formula_typed whole text)))) (first_later (cells_causes now.book source target) (reads_not whole from to (formula_typed whole text)) InvalidFormula accepted)
          ∙ ap step_by (ap (λ (o : Option InForce). by_notation None (λ f. formula_of f.locale text) o) there.1 ∙ ap (λ locale. formula_of locale text) its.0 ∙ e)

      -- a text without a formula
      pub copies_text : formula_of l.locale text ≡ None → (value : String Global) → chars (string_bytes value) ≡ text → Copies (Ok value)
      copies_text none value same = record {
        done = step_is None none ∙ ap (λ t. let made : Stepped machine.Book = Ok (whole, text_field t) in made) (sym same);
        before = valid;
        after = valid;
      }

      pub text_wants : formula_of l.locale text ≡ None → (r : Result (String Global) BookError) → IsErr r × IsErrAnd r (λ f. f ≡ errors.OutOfMemory) → Copies r
      text_wants none (Ok value) is = let no : false ≡ true = is.0 in cc
      text_wants none (Err e) is = record {
        done =
            subst (Refused (WantedOrWhole InvalidFormula) (extend_copied_step text from to whole) now now) (sym (ap refusal_of is.1))
            (inl (subst IsDone (sym (step_is None none)) tt), refl);
        before = valid;
        after = valid;
      }

      -- one with a formula
      module _ (formula : List ℕ) (typed : formula_of l.locale text ≡ Some formula) (id : ℕ) (its_id : option_map (λ (s : Sheet). s.id) (slice_get now.book.sheets source.sheet) ≡ Some id) where
        id_is : source_id whole from to ≡ Some id
        id_is =
            ap (option_map (λ (s : machine.Sheet). s.id)) (slice_get-map (whole_sheet strings) now.book.sheets source.sheet) ∙ id_seen (slice_get now.book.sheets source.sheet) ∙ its_id
          where
            id_seen : (o : Option Sheet) → option_map (λ (s : machine.Sheet). s.id) (option_map (whole_sheet strings) o) ≡ option_map (λ (s : Sheet). s.id) o
            id_seen None = refl
            id_seen (Some s) = refl

        tree_is : copied_tree whole from to formula ≡ tree_at now.book source.row source.column formula
        tree_is =
            ap (λ (c : CoreBook). option_or (read_as (shown_at (notations_in now.book) c source.row source.column) formula) (read_as ((notations_in now.book).shown english english source.row source.column) formula)) (whole_core now.book)

        shown_is : (t : Spelled) → tree_extended whole from to t ≡ tree_shown now.book id target.row target.column t
        shown_is t =
            ap₂ (λ (c : CoreBook) (o : Option ℕ). equals ∷ printed (shown_at (notations_in now.book) c target.row target.column) (spelled (scene_of c) (bound (english_function (notations_in now.book)) (scene_of c) o t))) (whole_core now.book) id_is

        abbrev by_tree : Option Spelled → Stepped machine.Book
        by_tree o = unless (if is_none o then Some InvalidFormula else None) whole (text_field (option_map_or (tree_extended whole from to) o []))

        reads_so : (o : Option Spelled) → tree_at now.book source.row source.column formula ≡ o → extend_copied_step text from to whole ≡ by_tree o
        reads_so o e = step_is (Some formula) typed ∙ ap by_tree (tree_is ∙ e)

        wants : (o : Option Spelled) → tree_at now.book source.row source.column formula ≡ o → Wants (WantedOrWhole InvalidFormula) (extend_copied_step text from to whole) now now
        wants None e = (inr (reads_so None e), refl)
        wants (Some t) e = (inl (subst IsDone (sym (reads_so (Some t) e)) tt), refl)

        pub copies_formula : (r : Result (String Global) BookError) → CopiesFormula now.book id source target formula r → Copies r
        copies_formula (Ok copied) h = record {
          done = reads_so (Some h.0) h.1 ∙ ap (λ t. let made : Stepped machine.Book = Ok (whole, text_field t) in made) (shown_is h.0 ∙ sym h.2);
          before = valid;
          after = valid;
        }
        copies_formula (Err e) (inl out) = record {
          done = subst (Refused (WantedOrWhole InvalidFormula) (extend_copied_step text from to whole) now now) (sym (ap refusal_of out)) (wants (tree_at now.book source.row source.column formula) refl);
          before = valid;
          after = valid;
        }
        copies_formula (Err e) (inr unread) = record {
          done = subst (Refused (WantedOrWhole InvalidFormula) (extend_copied_step text from to whole) now now) (sym (ap refusal_of unread.0)) (reads_so None unread.1, refl);
          before = valid;
          after = valid;
        }
