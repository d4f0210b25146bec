-- The lines that write the cells are accepted, and leave the formulas of the book.
use Rattle.std.proofs.Common.{◌≡◌, ℕ, ℤ, pos, negsuc, suc, ◌+◌, ◌≤◌, List, [], ◌∷◌, ◌++◌, length, map, flat_map, true, false, not, Option, None, Some, Ok, Err, codes, refl, sym, ap, ap₂, subst, ◌∙◌, append_assoc, arith, inl, inr, length-append, nat_eq}
use Rattle.std.proofs.lemmas.Bool.{and_parts, cases_Bool, or_parts}
use Rattle.std.proofs.lemmas.Bool.Decides.{nat_tests}
use Rattle.std.proofs.lemmas.List.{append-nil, map-append}
use Rattle.std.specs.BTreeMap.{insert_entry}
use Rattle.std.specs.Cmp.{IsTotalOrder}
use Rattle.std.specs.Fmt.{signed_decimal}
use Rattle.std.specs.List.{AllByRecursion, slice_get}
use Rattle.std.specs.List.Sorted.{IsStrictlySortedBy}
use Rattle.std.specs.Option.{option_or}
use Rattle.std.specs.Ordering.{match_ordering, ordering_reverse}
use Rattle.std.specs.Prelude.{int_le, is_some, nat_lt, option_map}
use Rattle.std.specs.declared.cmp.Ordering.{Ordering}
use Rattle.std.specs.declared.cmp.Ordering.TheVariants.{Greater, Less}
use Rattle.ic_laws.proofs.core.CellWritten.{place_cmp_total}
use Rattle.ic_laws.proofs.core.KeptBook.{mentioned}
use Rattle.ic_laws.proofs.keeping.Accepted.{none_refuses}
use Rattle.ic_laws.specs.Binding.{bound}
use Rattle.ic_laws.specs.Character.{equals}
use Rattle.ic_laws.specs.Command as core_commands
use Rattle.ic_laws.specs.Command.{position_said}
use Rattle.ic_laws.specs.CoreBook as core_book
use Rattle.ic_laws.specs.CoreBook.{CellPlace, Cells, CoreBook, place_cmp, scene_of, spelling_of, with_formula_at}
use Rattle.ic_laws.specs.CoreStep as core
use Rattle.ic_laws.specs.CoreStep.{core_step, updated_at}
use Rattle.ic_laws.specs.Dialect.{DialectMeaning}
use Rattle.ic_laws.specs.FormulaReading.{cell_formula, cell_tree, is_formula_text, shown_formula, tree_or_raw}
use Rattle.ic_laws.specs.Notations.{Notations, english, english_function}
use Rattle.ic_laws.specs.Position.{is_column, is_row}
use Rattle.ic_laws.specs.ReadAs.{read_as}
use Rattle.ic_laws.specs.Refusal as core_refusal
use Rattle.ic_laws.specs.Tree.{Spelled}
use Rattle.ic_laws.specs.ValidCore.{IsKeptCell, IsValidCore, IsValidSheet}
use Rattle.ic_laws.specs.declared.reference.TheConstants.{LAST_COLUMN, LAST_ROW}
use Rattle.ic_laws.specs.declared.scene.Scene.{Scene}
use Rattle.ic_laws.specs.declared.scene.SheetName.{SheetName}
use Rattle.ic_laws.specs.declared.tree.Formula.{Formula}
use Rattle.ic_laws.specs.declared.tree.Formula.TheVariants as formulas
use Rattle.ic_tables.specs.Tables.{language_of, locale_of}
use Rattle.ic_tree.proofs.ClashLemmas.{english_binds}
use Rattle.ic_tree.proofs.NotationLaws.{knows_language_is, knows_locale_is, notations_are}
use Rattle.ic_tree.specs.Notations.{notations_of}
use Rattle.ic_cells.specs.declared.layout.Merge.{Merge}
use Rattle.ic_grid.specs.Merges.{is_covered}
use Rattle.ic_machine.specs.Book.{Book, Sheet, Stepped, core_of, notations_in, scene_in}
use Rattle.ic_machine.specs.Command.{OnWriting}
use Rattle.ic_machine.specs.Core.{HasPooled, IsFree, TakesFormula, Told, told_by, told_by_core}
use Rattle.ic_machine.specs.InForce.{in_force}
use Rattle.ic_machine.specs.Kept.{StaysValid}
use Rattle.ic_machine.specs.Reply.{Field}
use Rattle.ic_machine.specs.Step.{english_errors}
use Rattle.ic_machine.specs.TranslationLaws.{AreAccepted}
use Rattle.ic_machine.specs.Valid.{HasCellFormulas, HasFormula, IsValidBook}
use Rattle.ic_machine.specs.subjects.Writing as writing
use Rattle.ic_machine.specs.subjects.Writing.{formula_step}
use Rattle.ic_machine.proofs.as_core.CoreValid.{core_valid}
use Rattle.ic_machine.proofs.as_core.FormulaStepped.{formula_told}
use Rattle.ic_machine.proofs.valid.RetypedLemmas.{empty_reads, in_force_is}
use Rattle.ic_machine.proofs.valid.ValidLemmas.{all_at}
use Rattle.ic_machine.proofs.valid.WritingSteps.{writing_stays}
use Rattle.ic_dump.specs.Lines.{cell_line, cell_lines_from, english_formula, in_english, lines_of_cells}
use Rattle.ic_dump.specs.Refused.{rereading, rereading_cell, rereading_cells, rereads}
use Rattle.ic_dump.specs.Stages.{WritesCells, bare_sheet, with_bare}
use Rattle.ic_dump.proofs.BareBooks.{bare_core, core_bare}
use Rattle.ic_dump.proofs.CellsPlain.{IsPlainSheet, empty_plain, formula_plain, plain_loose}
use Rattle.ic_dump.proofs.ListLemmas.{sorted_before, updated_seam}
use Rattle.ic_dump.proofs.RunLemmas.{accepted_both, line_accepted, line_leaves, run, run_both}
use Rattle.ic_dump.proofs.SaidAgain.{position_again}
use Rattle.ic_dump.proofs.TextsRead.{cell_read}
use Rattle.ic_grid.proofs.WriteLemmas.{none_there as nothing_there}
use Rattle.ic_laws.proofs.tokens.Splits.{mapped as mapped_some}
use Rattle.ic_laws.proofs.General.{some_there as there}

-- Cells in their order. ----

-- one that comes after all others goes to their end
put_last : (front : Cells) (place : CellPlace) (f : Formula) → AllByRecursion (λ (c : CellPlace × Formula). place_cmp c.0 place ≡ Less) front → insert_entry place_cmp front place f ≡ front ++ (place, f) ∷ []
put_last [] place f h = refl
put_last (c ∷ front) place f h =
    let later : place_cmp place c.0 ≡ Greater = IsTotalOrder.antisymm place_cmp_total place c.0 ∙ ap ordering_reverse h.0 in
    ap (λ (r : Ordering). match_ordering r ((place, f) ∷ c ∷ front) ((c.0, f) ∷ front) (c ∷ insert_entry place_cmp front place f)) later ∙ ap (λ (cs : Cells). c ∷ cs) (put_last front place f h.1)

-- Words for rows and columns. ----

row_again : (z : ℤ) → is_row z ≡ true → position_said (signed_decimal z) ≡ Some z
row_again (pos n) h = position_again n (let parts = and_parts (int_le (pos 1) (pos n)) (int_le (pos n) LAST_ROW) h in grind (arith, nat_tests))
row_again (negsuc n) h = absurd (cc)

column_again : (z : ℤ) → is_column z ≡ true → position_said (signed_decimal z) ≡ Some z
column_again (pos n) h = position_again n (let parts = and_parts (int_le (pos 1) (pos n)) (int_le (pos n) LAST_COLUMN) h in grind (arith, nat_tests))
column_again (negsuc n) h = absurd (cc)

-- Texts. ----

formula_text : (text : List ℕ) → (text ≡ [] → ⊥) → is_formula_text (equals ∷ text) ≡ true
formula_text [] h = absurd (h refl)
formula_text (c ∷ cs) h = refl

empty_length : (text : List ℕ) → text ≡ [] → nat_eq (length text) 0 ≡ true
empty_length text e = ap (λ (t : List ℕ). nat_eq (length t) 0) e

-- What a book is while its cells are written. ----

module _ (book : Book) (valid_book : IsValidBook book) where
  abbrev n : Notations
  n = notations_in book

  abbrev whole : CoreBook
  whole = core_of book

  valid_core : IsValidCore n whole
  valid_core = core_valid book valid_book

  abbrev with_these : List core_book.Sheet → CoreBook
  with_these sheets = record { sheets = sheets; definitions = whole.definitions; locale = english; language = english }

  pub record Filling (b : Book) (sheets : List core_book.Sheet) : Type 0 where
    pub valid : IsValidBook b
    pub tables : b.tables ≡ book.tables
    pub core : core_of b ≡ with_these sheets
    pub seen : map mentioned sheets ≡ (scene_of whole).sheets
    pub plain : AllByRecursion IsPlainSheet b.sheets

  pub record Writes (b : Book) (lines : List (List ℕ)) (sheets : List core_book.Sheet) : Type 0 where
    pub accepted : AreAccepted b lines
    pub filling : Filling (run b lines) sheets

  writes_both : (b : Book) (xs ys : List (List ℕ)) (middle sheets : List core_book.Sheet) → Writes b xs middle → Writes (run b xs) ys sheets → Writes b (xs ++ ys) sheets
  writes_both b xs ys middle sheets first then =
      record { accepted = accepted_both b xs ys first.accepted then.accepted; filling = subst (λ (x : Book). Filling x sheets) (sym (run_both b xs ys)) then.filling }

  -- what is written of a formula is that formula where the names are the same
  module _ (sheets : List core_book.Sheet) (seen : map mentioned sheets ≡ (scene_of whole).sheets) (id : ℕ) (place : CellPlace) where
    scene_same : scene_of (with_these sheets) ≡ scene_of whole
    scene_same = ap (λ (xs : List SheetName). let scene : Scene = record { sheets = xs; names = map spelling_of whole.definitions } in scene) seen

    abbrev form : DialectMeaning
    form = n.shown english english place.0 place.1

    abbrev text_of : Formula → List ℕ
    text_of f = shown_formula n (in_english whole) place.0 place.1 f

    written_is : (f : Formula) → IsKeptCell n (scene_of whole) id (place, f) → rereads n place f ≡ false → cell_formula n (with_these sheets) id place.0 place.1 (text_of f) ≡ f
    written_is (formulas.Raw text) kept unread =
        ap (tree_or_raw (λ (t : Spelled). formulas.Tree (bound (english_function n) (scene_of (with_these sheets)) (Some id) t)) text)
        (nothing_there (cell_tree form text) (or_parts (nat_eq (length text) 0) (is_some (cell_tree form text)) unread).1)
    written_is (formulas.Tree t) kept unread =
        let read = mapped_some (bound (english_function n) (scene_of whole) (Some id)) (read_as form (text_of (formulas.Tree t))) t
        (english_binds book.tables valid_book.tables whole valid_core (Some id) place.0 place.1 kept.inside t kept.formula) in
        ap (λ (scene : Scene). tree_or_raw (λ (u : Spelled). formulas.Tree (bound (english_function n) scene (Some id) u)) (text_of (formulas.Tree t)) (cell_tree form (text_of (formulas.Tree t)))) scene_same
        ∙ ap
        (λ (o : Option Spelled). tree_or_raw (λ (u : Spelled). formulas.Tree (bound (english_function n) (scene_of whole) (Some id) u)) (text_of (formulas.Tree t)) (option_or o (read_as form (text_of (formulas.Tree t) ++ codes ")"))))
        read.1
        ∙ ap formulas.Tree read.2

    some_text : (f : Formula) → IsKeptCell n (scene_of whole) id (place, f) → rereads n place f ≡ false → text_of f ≡ [] → ⊥
    some_text (formulas.Raw text) kept unread e = let none = (or_parts (nat_eq (length text) 0) (is_some (cell_tree form text)) unread).0 in let some = empty_length text e in cc
    some_text (formulas.Tree t) kept unread e =
        let read = mapped_some (bound (english_function n) (scene_of whole) (Some id)) (read_as form (text_of (formulas.Tree t))) t
        (english_binds book.tables valid_book.tables whole valid_core (Some id) place.0 place.1 kept.inside t kept.formula) in
        let no : None ≡ Some read.0 = sym (empty_reads form) ∙ ap (read_as form) (sym e) ∙ read.1 in cc

  -- One cell. ----

  is_told : (o : Stepped Book) (left : CoreBook) (fields : List Field) → (let t : Told = Ok (left, fields) in told_by o ≡ t) → (b : Book) × (said : List Field) × (o ≡ Ok (b, said)) × (core_of b ≡ left)
  is_told (Err refusal) left fields e = absurd (cc)
  is_told (Ok done) left fields e =
      let same : ◌≡◌ {A = CoreBook × List Field} (core_of done.0, done.1) (left, fields) = cc in
      (done.0, done.1, refl, ap (λ (p : CoreBook × List Field). p.0) same)

  module _ (b : Book) (pre post : List core_book.Sheet) (s : core_book.Sheet) (front : Cells) (place : CellPlace) (f : Formula) where
    abbrev old : List core_book.Sheet
    old = pre ++ record s { cells = front } ∷ post

    abbrev new : List core_book.Sheet
    new = pre ++ record s { cells = with_formula_at front place.0 place.1 f } ∷ post

    module _ (filling : Filling b (pre ++ record s { cells = front } ∷ post)) (kept : IsKeptCell n (scene_of whole) s.id (place, f)) (unread : rereads n place f ≡ false) where
      abbrev index : ℕ
      index = length pre

      abbrev shown : List ℕ
      shown = shown_formula n (in_english whole) place.0 place.1 f

      abbrev text : List ℕ
      text = equals ∷ shown

      long : length (core_of b).sheets ≡ length pre + suc (length post)
      long = ap (λ (c : CoreBook). length c.sheets) filling.core ∙ length-append pre (record s { cells = front } ∷ post)

      good : is_formula_text text ≡ true
      good = formula_text shown (some_text old filling.seen s.id place f kept unread)

      in_sight : (is_row place.0 ≡ true) × (is_column place.1 ≡ true)
      in_sight = and_parts (is_row place.0) (is_column place.1) kept.inside

      read : is_some (in_force b) ≡ true
      read =
          let named = there (locale_of b.tables b.locale) (sym (knows_locale_is b.tables b.locale) ∙ filling.valid.locale) in
          let language = there (language_of b.tables b.language) (sym (knows_language_is b.tables b.language) ∙ filling.valid.language) in
          let beside = there (language_of b.tables english) (sym (knows_language_is b.tables english) ∙ (notations_are b.tables filling.valid.tables).english_language) in
          ap is_some (in_force_is b named.0 language.0 beside.0 named.1 language.1 beside.1)

      takes : TakesFormula b index place
      takes = record { read = read; free = free }
        where
          pooled : (sheet : Sheet) → HasCellFormulas (notations_in b) (scene_in b) sheet → HasPooled sheet
          pooled sheet h at content i got is = (subst (HasFormula (notations_in b) (scene_in b) sheet at) is (h at content got)).0

          free : (sheet : Sheet) → slice_get b.sheets index ≡ Some sheet → IsFree sheet place
          free sheet at =
              let plain : IsPlainSheet sheet = all_at IsPlainSheet index b.sheets sheet filling.plain at in
              record {
                uncovered = ap (λ (ms : List Merge). is_covered ms place) plain.merges;
                loose = plain_loose sheet.grid.contents plain.plain place;
                pooled = pooled sheet (all_at (HasCellFormulas (notations_in b) (scene_in b)) index b.sheets sheet filling.valid.formulas at);
              }

      abbrev after_core : CoreBook → CoreBook
      after_core c = record c { sheets = updated_at (core.with_formula (notations_in b) c place.0 place.1 shown) index c.sheets }

      refusal : core.update_refusal (core_of b) index place.0 place.1 text ≡ None
      refusal =
          let wide = long in
          let there_is : not (nat_lt index (length (core_of b).sheets)) ≡ false = grind (arith, nat_tests) in
          none_refuses (core.update_causes (core_of b) index place.0 place.1 text) (there_is, (ap not in_sight.0, (ap not in_sight.1, (ap not good, tt))))

      stepped_core : core_step (notations_in b) (core_of b) (core_commands.UpdateCellWithFormula index place.0 place.1 text) ≡ Ok (after_core (core_of b), [])
      unfolding core_step
      stepped_core = ap (λ (o : Option core_refusal.Refusal). core.unless_refused o (after_core (core_of b)) []) refusal

      told : (left : Book) × (said : List Field) × (formula_step index place text b ≡ Ok (left, said)) × (core_of left ≡ after_core (core_of b))
      told = is_told (formula_step index place text b) (after_core (core_of b)) [] (formula_told b index place text takes refl ∙ ap told_by_core stepped_core)

      made : after_core (core_of b) ≡ with_these new
      made =
          ap after_core filling.core
          ∙ ap with_these
          (updated_seam (core.with_formula (notations_in b) (with_these old) place.0 place.1 shown) pre (record s { cells = front }) post
          ∙ ap (λ (m : Notations). pre ++ core.with_formula m (with_these old) place.0 place.1 shown (record s { cells = front }) ∷ post) (ap notations_of filling.tables)
          ∙ ap (λ (g : Formula). let x : core_book.Sheet = record s { cells = with_formula_at front place.0 place.1 g } in pre ++ x ∷ post) (written_is old filling.seen s.id place f kept unread))

      seen_still : map mentioned new ≡ (scene_of whole).sheets
      seen_still =
          map-append mentioned pre (record s { cells = with_formula_at front place.0 place.1 f } ∷ post) ∙ sym (map-append mentioned pre (record s { cells = front } ∷ post)) ∙ filling.seen

      within : index ≤ 4294967295
      within =
          let few = (core_valid b filling.valid).few in
          let wide = long in omega (arith, few, wide)

      pub cell_written : Writes b (cell_line index place text ∷ []) new
      cell_written =
          let line = cell_read (english_errors b) index place.0 place.1 text within (row_again place.0 in_sight.0) (column_again place.1 in_sight.1) in
          let command = OnWriting (writing.UpdateCellWithFormula index place.0 place.1 text) in
          let plain = formula_plain b filling.plain index place text told.0 told.1 told.2 in
          let left : Filling told.0 new =
          record {
            valid = subst StaysValid told.2 (writing_stays b (writing.UpdateCellWithFormula index place.0 place.1 text) filling.valid);
            tables = plain.tables ∙ filling.tables;
            core = told.3 ∙ made;
            seen = seen_still;
            plain = plain.plain;
          } in
          record {
            accepted = line_accepted b told.0 (cell_line index place text) command told.1 line told.2;
            filling = subst (λ (x : Book). Filling x new) (sym (line_leaves b told.0 (cell_line index place text) command told.1 line told.2)) left;
          }

  -- All cells of a sheet. ----

  cells_written : (b : Book) (pre post : List core_book.Sheet) (s : core_book.Sheet) (front rest : Cells) → Filling b (pre ++ record s { cells = front } ∷ post) → IsStrictlySortedBy place_cmp (map (λ (c : CellPlace × Formula). c.0) (front ++ rest))
      → AllByRecursion (IsKeptCell n (scene_of whole) s.id) rest → AllByRecursion (λ (c : CellPlace × Formula). rereads n c.0 c.1 ≡ false) rest → Writes b (lines_of_cells n whole (length pre) rest) (pre ++ record s { cells = front ++ rest } ∷ post)
  cells_written b pre post s front [] filling ordered kept unread =
      record { accepted = tt; filling = subst (λ (cs : Cells). Filling b (pre ++ record s { cells = cs } ∷ post)) (sym (append-nil front)) filling }
  cells_written b pre post s front (c ∷ rest) filling ordered kept unread =
      let joined : (front ++ c ∷ []) ++ rest ≡ front ++ c ∷ rest = append_assoc front (c ∷ []) rest in
      let first : Writes b (cell_line (length pre) c.0 (english_formula n whole c.0 c.1) ∷ []) (pre ++ record s { cells = front ++ c ∷ [] } ∷ post) =
      subst (λ (cs : Cells). Writes b (cell_line (length pre) c.0 (english_formula n whole c.0 c.1) ∷ []) (pre ++ record s { cells = cs } ∷ post))
      (put_last front c.0 c.1 (sorted_before (λ (x : CellPlace × Formula). x.0) place_cmp front c rest ordered)) (cell_written b pre post s front c.0 c.1 filling kept.0 unread.0) in
      let others =
      cells_written (run b (cell_line (length pre) c.0 (english_formula n whole c.0 c.1) ∷ [])) pre post s (front ++ c ∷ []) rest first.filling
      (subst (λ (cs : Cells). IsStrictlySortedBy place_cmp (map (λ (x : CellPlace × Formula). x.0) cs)) (sym joined) ordered) kept.1 unread.1 in
      subst (λ (cs : Cells). Writes b (lines_of_cells n whole (length pre) (c ∷ rest)) (pre ++ record s { cells = cs } ∷ post)) joined
      (writes_both b (cell_line (length pre) c.0 (english_formula n whole c.0 c.1) ∷ []) (lines_of_cells n whole (length pre) rest) (pre ++ record s { cells = front ++ c ∷ [] } ∷ post) (pre ++ record s { cells = (front ++ c ∷ []) ++ rest } ∷ post) first others)

  -- Of all sheets. ----

  abbrev without : core_book.Sheet → core_book.Sheet
  without s = record s { cells = [] }

  abbrev Unread : core_book.Sheet → Type 0
  Unread s = AllByRecursion (λ (c : CellPlace × Formula). rereads n c.0 c.1 ≡ false) s.cells

  sheets_written : (b : Book) (pre rest : List core_book.Sheet) → Filling b (pre ++ map without rest) → AllByRecursion (IsValidSheet n (scene_of whole)) rest → AllByRecursion Unread rest
      → Writes b (cell_lines_from n whole (length pre) rest) (pre ++ rest)
  sheets_written b pre [] filling valid unread = record { accepted = tt; filling = filling }
  sheets_written b pre (s ∷ rest) filling valid unread =
      let first : Writes b (lines_of_cells n whole (length pre) s.cells) (pre ++ s ∷ map without rest) = cells_written b pre (map without rest) s [] s.cells filling valid.0.ordered valid.0.cells unread.0 in
      let joined : (ys : List core_book.Sheet) → (pre ++ s ∷ []) ++ ys ≡ pre ++ s ∷ ys = λ ys. append_assoc pre (s ∷ []) ys in
      let longer : length (pre ++ s ∷ []) ≡ suc (length pre) = let wide = length-append pre (s ∷ []) in omega (arith, wide) in
      let next : Book = run b (lines_of_cells n whole (length pre) s.cells) in
      let others : Writes next (cell_lines_from n whole (length (pre ++ s ∷ [])) rest) ((pre ++ s ∷ []) ++ rest) =
      sheets_written (run b (lines_of_cells n whole (length pre) s.cells)) (pre ++ s ∷ []) rest (subst (Filling next) (sym (joined (map without rest))) first.filling) valid.1 unread.1 in
      writes_both b (lines_of_cells n whole (length pre) s.cells) (cell_lines_from n whole (suc (length pre)) rest) (pre ++ s ∷ map without rest) (pre ++ s ∷ rest) first
      (subst (λ (i : ℕ). Writes next (cell_lines_from n whole i rest) (pre ++ s ∷ rest)) longer (subst (Writes next (cell_lines_from n whole (length (pre ++ s ∷ [])) rest)) (joined rest) others))

-- No cell's text would read. ----

both_none : {A B : Type 0} (f : A → B) (first : Option B) (o : Option A) → option_or first (option_map f o) ≡ None → o ≡ None
both_none f (Some x) o e = absurd (cc)
both_none f None None e = refl
both_none f None (Some x) e = absurd (cc)

nothing_first : {A : Type 0} (xs : List A) → slice_get xs 0 ≡ None → xs ≡ []
nothing_first [] e = refl
nothing_first (x ∷ xs) e = absurd (cc)

parts_empty : {A : Type 0} (xs ys : List A) → xs ++ ys ≡ [] → (xs ≡ []) × (ys ≡ [])
parts_empty [] ys e = (refl, e)
parts_empty (x ∷ xs) ys e = absurd (cc)

module _ (n : Notations) where
  cells_unread : (id : ℕ) (cells : Cells) → flat_map (rereading_cell n id) cells ≡ [] → AllByRecursion (λ (c : CellPlace × Formula). rereads n c.0 c.1 ≡ false) cells
  cells_unread id [] e = tt
  cells_unread id (c ∷ cells) e =
      let parts = parts_empty (rereading_cell n id c) (flat_map (rereading_cell n id) cells) e in
      (elim (cases_Bool (rereads n c.0 c.1)) [ inl t ↦ absurd (let no = parts.0 in let some = rw t at no in cc) | inr f ↦ f ], cells_unread id cells parts.1)

  sheets_unread : (sheets : List core_book.Sheet) → flat_map (λ (s : core_book.Sheet). flat_map (rereading_cell n s.id) s.cells) sheets ≡ [] → AllByRecursion (λ (s : core_book.Sheet). AllByRecursion (λ (c : CellPlace × Formula). rereads n c.0 c.1 ≡ false) s.cells) sheets
  sheets_unread [] e = tt
  sheets_unread (s ∷ sheets) e =
      let parts = parts_empty (flat_map (rereading_cell n s.id) s.cells) (flat_map (λ (x : core_book.Sheet). flat_map (rereading_cell n x.id) x.cells) sheets) e in
      (cells_unread s.id s.cells parts.0, sheets_unread sheets parts.1)

-- The bare book. ----

bare_without : (sheets : List core_book.Sheet) → map bare_core (map mentioned sheets) ≡ map (λ (s : core_book.Sheet). record s { cells = [] }) sheets
bare_without [] = refl
bare_without (s ∷ sheets) = ap (λ (xs : List core_book.Sheet). let x : core_book.Sheet = record s { cells = [] } in x ∷ xs) (bare_without sheets)

seen_without : (sheets : List core_book.Sheet) → map mentioned (map (λ (s : core_book.Sheet). let x : core_book.Sheet = record s { cells = [] } in x) sheets) ≡ map mentioned sheets
seen_without [] = refl
seen_without (s ∷ sheets) = ap (λ (xs : List SheetName). mentioned s ∷ xs) (seen_without sheets)

bare_plain : (sheets : List SheetName) → AllByRecursion IsPlainSheet (map bare_sheet sheets)
bare_plain [] = tt
bare_plain (s ∷ sheets) = (record { merges = refl; plain = empty_plain }, bare_plain sheets)

pub writes_cells : WritesCells
writes_cells book start is valid =
    let core : CoreBook = core_of book in
    let own : List SheetName = (scene_of core).sheets in
    let begun : Filling book is.valid (with_bare own book.definitions start) (map (λ (s : core_book.Sheet). record s { cells = [] }) core.sheets) =
    record {
      valid = valid;
      tables = is.tables;
      core = core_bare own book.definitions start
          ∙ ap₂ (λ (xs : List core_book.Sheet) (locale : List ℕ). let c : CoreBook = record { sheets = xs; definitions = book.definitions; locale = locale; language = start.language } in c) (bare_without core.sheets) is.locale
          ∙ ap (λ (language : List ℕ). let c : CoreBook = record { sheets = map (λ (s : core_book.Sheet). record s { cells = [] }) core.sheets; definitions = book.definitions; locale = english; language = language } in c) is.language;
      seen = seen_without core.sheets;
      plain = bare_plain own;
    } in
    let unread = sheets_unread (notations_in book) core.sheets (nothing_first (rereading_cells (notations_in book) core) (both_none _ _ (rereading (notations_in book) core) is.none)) in
    let all = sheets_written book is.valid (with_bare own book.definitions start) [] core.sheets begun (core_valid book is.valid).sheets unread in
    record { accepted = all.accepted; core = all.filling.core }
