-- The texts of a workbook that was handed in are those that are taken out again.
use Rattle.std.proofs.Common.{◌≡◌, ◌∙◌, ◌++◌, ◌==◌, ℕ, pos, List, [], ◌∷◌, map, Bool, true, false, Option, Some, None, refl, sym, ap, ap₂, if◌then◌else◌}
use Rattle.std.proofs.lemmas.Bool.Decides.{Decides-eqb}
use Rattle.std.proofs.lemmas.Slice.Eq.{bytes_eq-Decides}
use Rattle.std.specs.List.{AllByRecursion}
use Rattle.std.specs.Prelude.{bytes_eq, option_and_then}
use Rattle.ic_laws.specs.Character.{equals}
use Rattle.ic_laws.specs.CoreBook.{Definition}
use Rattle.ic_laws.specs.Dialect.{DialectMeaning}
use Rattle.ic_laws.specs.FormulaReading.{without_equals}
use Rattle.ic_laws.specs.Notations.{english_function}
use Rattle.ic_laws.specs.Scan.{first_is}
use Rattle.ic_laws.specs.declared.scene.Scene.{Scene}
use Rattle.ic_laws.specs.declared.tree.Formula.{Formula}
use Rattle.ic_tables.specs.Tables.{TableSet}
use Rattle.ic_cells.specs.declared.sheet.Worksheet.{Worksheet}
use Rattle.ic_cells.specs.declared.workbook.DefinedName.{DefinedName}
use Rattle.ic_cells.specs.declared.workbook.Workbook.{Workbook}
use Rattle.ic_tree.specs.Notations.{in_english, notations_of}
use Rattle.ic_tree.specs.StoredText.{stored_formula}
use Rattle.ic_machine.specs.Book as machine
use Rattle.ic_sheets.specs.Sheet.{Sheet}
use Rattle.ic_parts.specs.Book.{Book, scene_in, whole_of, whole_sheet}
use Rattle.ic_workbooks.specs.HandedIn.{HaveSameTexts, IsFormula, MeetsAll, Texts, body_formula, book_of, definition_of, formula_of, formula_or_none, formula_read, if_own, scene_of, sheet_formula, sheet_of}
use Rattle.ic_workbooks.specs.Workbook.{defined_name_of, sign_of, text_in, workbook_of, worksheet_of}
use Rattle.ic_workbooks.proofs.AcceptedWorkbook.{formula_here, same_scene}
use Rattle.ic_parts.proofs.WholeLemmas.{whole_scene}
use Rattle.ic_workbooks.proofs.WorkbookLemmas.{text_is_stored}

-- the text of a formula that a text stands for is that text
own_text : (d : DialectMeaning) (functions : List ℕ → Option ℕ) (scene : Scene) (scope : Option ℕ) (text : List ℕ) (formula : Formula) → formula_of d functions scene scope text ≡ Some formula → text_in d scene formula ≡ text
own_text d functions scene scope text formula e = of_read (formula_read d functions scene scope text) e
  where
    by_test : (other : Formula) (b : Bool) → bytes_eq (text_in d scene other) text ≡ b → (if b then Some other else None) ≡ Some formula → text_in d scene formula ≡ text
    by_test other true same e = let is : other ≡ formula = cc in ap (text_in d scene) (sym is) ∙ (bytes_eq-Decides (text_in d scene other) text).0 same
    by_test other false same e = cc

    of_read : (o : Option Formula) → option_and_then (if_own d scene text) o ≡ Some formula → text_in d scene formula ≡ text
    of_read None e = cc
    of_read (Some other) e = by_test other (bytes_eq (text_in d scene other) text) refl e

-- an equals sign that is cut off is put back
signed_again : (text : List ℕ) → sign_of (first_is (λ c. c == equals) text) ++ without_equals text ≡ text
signed_again [] = refl
signed_again (c ∷ cs) = at (c == equals) refl
  where
    at : (b : Bool) → (c == equals) ≡ b → sign_of b ++ (if b then cs else c ∷ cs) ≡ c ∷ cs
    at true e = ap (λ x. x ∷ cs) (sym ((Decides-eqb c equals).0 e))
    at false e = refl

-- the texts of a whole book ----

module _ (b : machine.Book) where
  abbrev sheet_texts : List (List (List ℕ))
  sheet_texts = map (λ (s : machine.Sheet). map (stored_formula (machine.notations_in b) (machine.scene_in b)) s.pool) b.sheets

  abbrev definition_texts : List DefinedName
  definition_texts =
      map (λ (d : Definition). let name : DefinedName = record { name = d.name; formula = sign_of d.has_equals ++ text_in (in_english b.tables (pos 1) (pos 1)) (machine.scene_in b) d.body; sheet_id = d.scope } in name) b.definitions

-- of a book ----

module _ (book : Book) where
  texts_taken : (scene : Scene) → scene ≡ scene_in book → (sheets : List Sheet) → map (λ (s : machine.Sheet). map (stored_formula (notations_of book.tables) scene) s.pool) (map (whole_sheet book.strings) sheets)
      ≡ map (λ (s : Worksheet). s.shared_formulas) (map (worksheet_of book) sheets)
  texts_taken scene same [] = refl
  texts_taken scene same (s ∷ sheets) = ap₂ (λ (x : Scene) (rest : List (List (List ℕ))). map (stored_formula (notations_of book.tables) x) s.pool ∷ rest) same (texts_taken scene same sheets)

  names_taken : (scene : Scene) → scene ≡ scene_in book → (definitions : List Definition)
      → map (λ (d : Definition). let name : DefinedName = record { name = d.name; formula = sign_of d.has_equals ++ text_in (in_english book.tables (pos 1) (pos 1)) scene d.body; sheet_id = d.scope } in name) definitions
      ≡ map (defined_name_of book) definitions
  names_taken scene same definitions =
      ap (λ (x : Scene). map (λ (d : Definition). let name : DefinedName = record { name = d.name; formula = sign_of d.has_equals ++ text_in (in_english book.tables (pos 1) (pos 1)) x d.body; sheet_id = d.scope } in name) definitions) same

-- of records ----

module _ (w : Workbook) (language : List ℕ) (tables : TableSet) (meets : MeetsAll w language tables) where
  pool_text : (id : ℕ) (text : List ℕ) → IsFormula (sheet_formula w tables id text) → stored_formula (notations_of tables) (scene_of w) (formula_or_none (sheet_formula w tables id text)) ≡ text
  pool_text id text h =
      let found = formula_here (sheet_formula w tables id text) h in
      ap (λ o. stored_formula (notations_of tables) (scene_of w) (formula_or_none o)) found.1 ∙ sym (text_is_stored (notations_of tables) (scene_of w) found.0)
      ∙ own_text (notations_of tables).stored (english_function (notations_of tables)) (scene_of w) (Some id) text found.0 found.1

  pool_texts : (id : ℕ) (texts : List (List ℕ)) → AllByRecursion (λ text. IsFormula (sheet_formula w tables id text)) texts
      → map (stored_formula (notations_of tables) (scene_of w)) (map (λ text. formula_or_none (sheet_formula w tables id text)) texts) ≡ texts
  pool_texts id [] h = refl
  pool_texts id (text ∷ texts) h = ap₂ (λ (x : List ℕ) (rest : List (List ℕ)). x ∷ rest) (pool_text id text h.0) (pool_texts id texts h.1)

  sheets_texts : (sheets : List Worksheet) → AllByRecursion (λ (s : Worksheet). AllByRecursion (λ text. IsFormula (sheet_formula w tables s.sheet_id text)) s.shared_formulas) sheets
      → map (λ (s : machine.Sheet). map (stored_formula (notations_of tables) (scene_of w)) s.pool) (map (sheet_of w tables) sheets) ≡ map (λ (s : Worksheet). s.shared_formulas) sheets
  sheets_texts [] h = refl
  sheets_texts (s ∷ sheets) h = ap₂ (λ (x : List (List ℕ)) (rest : List (List (List ℕ))). x ∷ rest) (pool_texts s.sheet_id s.shared_formulas h.0) (sheets_texts sheets h.1)

  body_text_again : (scope : Option ℕ) (text : List ℕ) → IsFormula (body_formula w tables scope text)
      → sign_of (first_is (λ c. c == equals) text) ++ text_in (in_english tables (pos 1) (pos 1)) (scene_of w) (formula_or_none (body_formula w tables scope text)) ≡ text
  body_text_again scope text h =
      let found = formula_here (body_formula w tables scope text) h in
      ap (λ rest. sign_of (first_is (λ c. c == equals) text) ++ rest)
      (ap (λ o. text_in (in_english tables (pos 1) (pos 1)) (scene_of w) (formula_or_none o)) found.1
      ∙ own_text (in_english tables (pos 1) (pos 1)) (english_function (notations_of tables)) (scene_of w) scope (without_equals text) found.0 found.1)
      ∙ signed_again text

  names_again : (names : List DefinedName) → AllByRecursion (λ (name : DefinedName). IsFormula (body_formula w tables name.sheet_id name.formula)) names
      → map (λ (d : Definition). let name : DefinedName = record { name = d.name; formula = sign_of d.has_equals ++ text_in (in_english tables (pos 1) (pos 1)) (scene_of w) d.body; sheet_id = d.scope } in name) (map (definition_of w tables) names)
      ≡ names
  names_again [] h = refl
  names_again (name ∷ names) h =
      ap₂ (λ (text : List ℕ) (rest : List DefinedName). let one : DefinedName = record { name = name.name; formula = text; sheet_id = name.sheet_id } in one ∷ rest) (body_text_again name.sheet_id name.formula h.0) (names_again names h.1)

  abbrev read : machine.Book
  read = book_of w language tables

  sheets_of_read : sheet_texts read ≡ map (λ (s : Worksheet). s.shared_formulas) w.worksheets
  sheets_of_read = ap (λ (scene : Scene). map (λ (s : machine.Sheet). map (stored_formula (notations_of tables) scene) s.pool) read.sheets) (same_scene w language tables) ∙ sheets_texts w.worksheets (meets Texts).sheets

  definitions_of_read : definition_texts read ≡ w.defined_names
  definitions_of_read =
      ap (λ (scene : Scene). map (λ (d : Definition). let name : DefinedName = record { name = d.name; formula = sign_of d.has_equals ++ text_in (in_english tables (pos 1) (pos 1)) scene d.body; sheet_id = d.scope } in name) read.definitions)
      (same_scene w language tables) ∙ names_again w.defined_names (meets Texts).bodies

  pub texts_again : (book : Book) → whole_of book ≡ read → HaveSameTexts (workbook_of book) w
  texts_again book same = record {
    sheets = sym (texts_taken book (machine.scene_in (whole_of book)) (whole_scene book) book.sheets) ∙ ap sheet_texts same ∙ sheets_of_read;
    definitions = sym (names_taken book (machine.scene_in (whole_of book)) (whole_scene book) book.definitions) ∙ ap definition_texts same ∙ definitions_of_read;
  }
