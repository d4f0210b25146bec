-- What a book holds as plain records is accepted when it is handed in, and stands for the same whole book.
use Rattle.std.proofs.Common.{◌≡◌, ◌∙◌, ◌++◌, ◌==◌, ℕ, ℤ, pos, List, [], ◌∷◌, map, length, Bool, true, false, Option, Some, None, if◌then◌else◌, option_map, refl, sym, ap, ap₂, subst}
use Rattle.std.proofs.lemmas.Slice.Eq.{bytes_eq-Decides}
use Rattle.std.specs.List.{AllByRecursion}
use Rattle.std.specs.Option.{option_or}
use Rattle.std.specs.Prelude.{option_and_then}
use Rattle.ic_laws.specs.Binding.{bound, spelled}
use Rattle.ic_laws.specs.Character.{equals}
use Rattle.ic_laws.specs.CoreBook.{CellPlace, Definition, Sheet as CoreSheet, spelling_of}
use Rattle.ic_laws.specs.Dialect.{DialectMeaning, IsLawful}
use Rattle.ic_laws.specs.FormulaReading.{without_equals}
use Rattle.ic_laws.specs.Notations.{Notations, english, english_function}
use Rattle.ic_laws.specs.ReadAs.{read_as}
use Rattle.ic_laws.specs.Reading.{printed}
use Rattle.ic_laws.specs.Scan.{first_is}
use Rattle.ic_laws.specs.Tree.{Bound, Kind, Spelled}
use Rattle.ic_laws.specs.ValidCore.{IsKeptBody, IsKeptFormula, IsPlaceInside, IsPooled, LiesWhere}
use Rattle.ic_laws.specs.declared.scene.NameSpelling.{NameSpelling}
use Rattle.ic_laws.specs.declared.scene.Scene.{Scene}
use Rattle.ic_laws.specs.declared.scene.SheetName.{SheetName}
use Rattle.ic_laws.specs.declared.tree.Formula.{Formula}
use Rattle.ic_laws.specs.declared.tree.Formula.TheVariants as formulas
use Rattle.ic_laws.specs.declared.tree.NameMention.{NameMention}
use Rattle.ic_laws.specs.declared.tree.SheetMention.{SheetMention}
use Rattle.ic_laws.specs.declared.tree.Tree.TheOpen as one
use Rattle.ic_laws.proofs.core.Named.{book_named}
use Rattle.ic_laws.proofs.kept.Everywhere.{every_both}
use Rattle.ic_laws.proofs.kept.Written.{stored_text_binds}
use Rattle.ic_cells.specs.declared.sheet.Worksheet.{Worksheet}
use Rattle.ic_cells.specs.declared.workbook.DefinedName.{DefinedName}
use Rattle.ic_cells.specs.declared.workbook.Workbook.{Workbook}
use Rattle.ic_tree.proofs.ClashLemmas.{english_binds}
use Rattle.ic_tree.specs.Notations.{in_english}
use Rattle.ic_machine.proofs.valid.ValidLemmas.{all_of}
use Rattle.ic_machine.specs.Book as machine
use Rattle.ic_machine.specs.Content.{formula_in, formula_index}
use Rattle.ic_machine.specs.Valid as valid_machine
use Rattle.ic_sheets.specs.Sheet.{IsValidPool, Sheet, sheet_core}
use Rattle.ic_parts.specs.Book.{Book, IsValidBook, core_of, notations_in, scene_in, whole_grid, whole_of, whole_sheet, whole_tab}
use Rattle.ic_workbooks.specs.HandedIn.{Arrays, Definitions, Formulas, HasFormulaAt, HasFormulas, HasStrings, HasTexts, IsFormula, IsReferenceInside, Layout, MeetsAll, Merges, Places, RefersInside, SheetCount, SheetIds, SheetNames, Strings, Styles, Texts, body_formula, book_of, definition_of, formula_of, formula_or_none, if_own, scene_of, sheet_formula, sheet_of}
use Rattle.ic_workbooks.specs.Workbook.{body_in_english, body_text, defined_name_of, sign_of, stored_text, text_in, workbook_of, worksheet_of}
use Rattle.ic_parts.proofs.BookValid.{core_valid, notations, pools_valid}
use Rattle.ic_parts.proofs.UnreadLemmas.{all_without_equals, not_past_bracket, unclosed, unequal}
use Rattle.ic_parts.proofs.WholeLemmas.{whole_scene}
use Rattle.ic_workbooks.proofs.WorkbookLemmas.{text_is_stored}

-- a formula by its text ----

module _ (d : DialectMeaning) (n : IsLawful d) (functions : List ℕ → Option ℕ) (scene : Scene) (scope : Option ℕ) where
  -- what is asked of a formula: its text reads and binds to it
  abbrev BindsAgain : Formula → Type 0
  BindsAgain (formulas.Tree t) = option_map (bound functions scene scope) (read_as d (printed d (spelled scene t))) ≡ Some t
  BindsAgain (formulas.Raw text) = Unit {0}

  own : (formula : Formula) → if_own d scene (text_in d scene formula) formula ≡ Some formula
  own formula = ap (λ b. if b then Some formula else None) ((bytes_eq-Decides (text_in d scene formula) (text_in d scene formula)).1 refl)

  mapped_tree : (o : Option Spelled) (t : Bound) → option_map (bound functions scene scope) o ≡ Some t → option_map (λ u. formulas.Tree (bound functions scene scope u)) o ≡ Some (formulas.Tree t)
  mapped_tree None t e = cc
  mapped_tree (Some u) t e = let is : bound functions scene scope u ≡ t = cc in ap (λ x. let o : Option Formula = Some (formulas.Tree x) in o) is

  reads_some : (o : Option Spelled) (t : Bound) → option_map (bound functions scene scope) o ≡ Some t → (u : Spelled) × (o ≡ Some u)
  reads_some None t e = cc
  reads_some (Some u) t e = (u, refl)

  -- a formula that binds again doesn't begin with an equals sign, and is what its text stands for
  no_equals : (formula : Formula) → BindsAgain formula → first_is (λ c. c == equals) (text_in d scene formula) ≡ false
  no_equals (formulas.Tree t) binds = let u = reads_some (read_as d (printed d (spelled scene t))) t binds in unequal d n (printed d (spelled scene t)) u.0 u.1
  no_equals (formulas.Raw text) binds = refl

  formula_back : (formula : Formula) → BindsAgain formula → formula_of d functions scene scope (text_in d scene formula) ≡ Some formula
  formula_back (formulas.Tree t) binds =
      let text : List ℕ = printed d (spelled scene t) in
      let u = reads_some (read_as d text) t binds in
      ap (option_and_then (if_own d scene text))
      (ap (λ o. option_or (option_map formulas.Raw o) (option_map (λ u. formulas.Tree (bound functions scene scope u)) (read_as d text))) (not_past_bracket text (unclosed d n text u.0 u.1))
      ∙ mapped_tree (read_as d text) t binds)
      ∙ own (formulas.Tree t)
  formula_back (formulas.Raw text) binds = own (formulas.Raw text)

-- lists ----

pub all_mapped : {X Y : Type 0} (P : Y → Type 0) (f : X → Y) (xs : List X) → AllByRecursion (λ x. P (f x)) xs → AllByRecursion P (map f xs)
all_mapped P f [] h = tt
all_mapped P f (x ∷ xs) h = (h.0, all_mapped P f xs h.1)

formula_there : (o : Option Formula) (formula : Formula) → o ≡ Some formula → IsFormula o
formula_there o formula e = subst IsFormula (sym e) tt

module _ (book : Book) (valid : IsValidBook book) where
  abbrev n : Notations
  n = notations_in book

  abbrev taken : Workbook
  taken = workbook_of book

  -- what formulas can mention
  sheets_named : (sheets : List Sheet) → map (λ (s : Worksheet). let named : SheetName = record { id = s.sheet_id; name = s.name } in named) (map (worksheet_of book) sheets)
      ≡ map (λ (s : CoreSheet). let named : SheetName = record { id = s.id; name = s.name } in named) (map sheet_core sheets)
  sheets_named [] = refl
  sheets_named (s ∷ sheets) = ap (λ (rest : List SheetName). let named : SheetName = record { id = s.id; name = s.name } in named ∷ rest) (sheets_named sheets)

  names_spelled : (definitions : List Definition) → map (λ (d : DefinedName). let spelling : NameSpelling = record { name = d.name; scope = d.sheet_id } in spelling) (map (defined_name_of book) definitions)
      ≡ map spelling_of definitions
  names_spelled [] = refl
  names_spelled (d ∷ definitions) = ap (λ (rest : List NameSpelling). spelling_of d ∷ rest) (names_spelled definitions)

  same_scene : scene_of taken ≡ scene_in book
  same_scene = ap₂ (λ (sheets : List SheetName) (names : List NameSpelling). let scene : Scene = record { sheets = sheets; names = names } in scene) (sheets_named book.sheets) (names_spelled book.definitions)

  -- the formulas of a sheet
  pooled_binds : (id : ℕ) (formula : Formula) → IsPooled n (scene_in book) (Some id) formula → BindsAgain n.stored (notations book valid).stored (english_function n) (scene_in book) (Some id) formula
  pooled_binds id (formulas.Tree t) kept = stored_text_binds n (notations book valid) (scene_in book) (book_named n (core_of book) (core_valid book valid)) (Some id) (λ place. Unit {0}) t kept
  pooled_binds id (formulas.Raw text) kept = tt

  sheet_back : (id : ℕ) (formula : Formula) → IsPooled n (scene_in book) (Some id) formula → sheet_formula taken book.tables id (stored_text book formula) ≡ Some formula
  sheet_back id formula kept =
      ap₂ (λ (scene : Scene) (text : List ℕ). formula_of n.stored (english_function n) scene (Some id) text) same_scene (sym (text_is_stored n (scene_in book) formula))
      ∙ formula_back n.stored (notations book valid).stored (english_function n) (scene_in book) (Some id) formula (pooled_binds id formula kept)

  pool_back : (id : ℕ) (pool : List Formula) → AllByRecursion (IsPooled n (scene_in book) (Some id)) pool → map (λ text. formula_or_none (sheet_formula taken book.tables id text)) (map (stored_text book) pool) ≡ pool
  pool_back id [] h = refl
  pool_back id (formula ∷ pool) h = ap₂ (λ (x : Formula) (rest : List Formula). x ∷ rest) (ap formula_or_none (sheet_back id formula h.0)) (pool_back id pool h.1)

  sheets_back : (sheets : List Sheet) → AllByRecursion (IsValidPool n (scene_in book)) sheets → map (sheet_of taken book.tables) (map (worksheet_of book) sheets) ≡ map (whole_sheet book.strings) sheets
  sheets_back [] h = refl
  sheets_back (s ∷ sheets) h =
      ap₂ (λ (pool : List Formula) (rest : List machine.Sheet). let sheet : machine.Sheet = record { id = s.id; name = s.name; pool = pool; grid = whole_grid book.strings s.grid; tab = whole_tab s.tab } in sheet ∷ rest)
      (pool_back s.id s.pool h.0.formulas) (sheets_back sheets h.1)

  -- the bodies of definitions
  abbrev english_form : DialectMeaning
  english_form = in_english book.tables (pos 1) (pos 1)

  english_lawful : IsLawful english_form
  english_lawful = ((notations book valid).shown english english (pos 1) (pos 1) (notations book valid).english_locale (notations book valid).english_language).lawful

  body_binds : (scope : Option ℕ) (body : Formula) → IsKeptFormula n (scene_in book) scope (pos 1) (pos 1) body → BindsAgain english_form english_lawful (english_function n) (scene_in book) scope body
  body_binds scope (formulas.Tree t) kept = english_binds book.tables valid.whole.tables (core_of book) (core_valid book valid) scope (pos 1) (pos 1) refl t kept
  body_binds scope (formulas.Raw text) kept = tt

  signed : (has_equals : Bool) (text : List ℕ) → first_is (λ c. c == equals) text ≡ false → (without_equals (sign_of has_equals ++ text) ≡ text) × (first_is (λ c. c == equals) (sign_of has_equals ++ text) ≡ has_equals)
  signed true text e = (refl, refl)
  signed false text e = (all_without_equals text e, e)

  module _ (d : Definition) (kept : IsKeptBody n (scene_in book) d) where
    body_signed : (without_equals (body_text book d.has_equals d.body) ≡ body_in_english book d.body) × (first_is (λ c. c == equals) (body_text book d.has_equals d.body) ≡ d.has_equals)
    body_signed = signed d.has_equals (body_in_english book d.body) (no_equals english_form english_lawful (english_function n) (scene_in book) d.scope d.body (body_binds d.scope d.body kept))

    body_back : body_formula taken book.tables d.scope (body_text book d.has_equals d.body) ≡ Some d.body
    body_back =
        ap₂ (λ (scene : Scene) (text : List ℕ). formula_of english_form (english_function n) scene d.scope text) same_scene body_signed.0
        ∙ formula_back english_form english_lawful (english_function n) (scene_in book) d.scope d.body (body_binds d.scope d.body kept)

    definition_back : definition_of taken book.tables (defined_name_of book d) ≡ d
    definition_back = ap₂ (λ (has_equals : Bool) (body : Formula). let made : Definition = record { name = d.name; scope = d.scope; has_equals = has_equals; body = body } in made) body_signed.1 (ap formula_or_none body_back)

  definitions_back : (definitions : List Definition) → AllByRecursion (IsKeptBody n (scene_in book)) definitions → map (definition_of taken book.tables) (map (defined_name_of book) definitions) ≡ definitions
  definitions_back [] h = refl
  definitions_back (d ∷ definitions) h = ap₂ (λ (x : Definition) (rest : List Definition). x ∷ rest) (definition_back d h.0) (definitions_back definitions h.1)

  bodies_kept : AllByRecursion (IsKeptBody n (scene_in book)) book.definitions
  bodies_kept = subst (λ scene. AllByRecursion (IsKeptBody n scene) book.definitions) (whole_scene book) valid.whole.kept.bodies

  -- so the records stand for the whole book
  pub read_back : book_of taken book.language book.tables ≡ whole_of book
  read_back = ap₂ (λ (sheets : List machine.Sheet) (definitions : List Definition). record (whole_of book) { sheets = sheets; definitions = definitions }) (sheets_back book.sheets (pools_valid book valid)) (definitions_back book.definitions bodies_kept)

  -- and meet each condition
  inside : (functions : Notations) (scene : Scene) (scope : Option ℕ) (row column : ℤ) (formula : Formula) → IsKeptFormula functions scene scope row column formula → RefersInside row column formula
  inside functions scene scope row column (formulas.Tree t) h =
      every_both (LiesWhere functions (IsPlaceInside row column)) (λ pair. Unit {0}) (LiesWhere functions (IsPlaceInside row column)) (λ pair. Unit {0}) (IsReferenceInside row column) (λ pair. Unit {0})
      (λ kind a b. by_kind kind a) (λ pair a b. tt) t h.parts h.parts
    where
      by_kind : (kind : Kind SheetMention NameMention) → LiesWhere functions (IsPlaceInside row column) kind → IsReferenceInside row column kind
      by_kind (one.Reference sheet place) h = h
      by_kind kind h = tt
  inside functions scene scope row column (formulas.Raw text) h = tt

  formulas_there : (functions : Notations) (scene : Scene) (s : machine.Sheet) → valid_machine.HasCellFormulas functions scene s → HasFormulas s
  formulas_there functions scene s h = λ place content e. at place (formula_index content) (h place content e)
    where
      at : (place : CellPlace) (index : Option ℕ) → valid_machine.HasFormula functions scene s place index → HasFormulaAt s.pool place index
      at place None h = tt
      at place (Some index) h = (h.0, inside functions scene (Some s.id) place.0 place.1 (formula_in s.pool index) h.1)

  texts_there : HasTexts taken book.tables
  texts_there = record {
    sheets = all_mapped (λ (s : Worksheet). AllByRecursion (λ text. IsFormula (sheet_formula taken book.tables s.sheet_id text)) s.shared_formulas) (worksheet_of book) book.sheets
        (all_of (IsValidPool n (scene_in book)) (λ (s : Sheet). AllByRecursion (λ text. IsFormula (sheet_formula taken book.tables s.id text)) (map (stored_text book) s.pool))
        (λ s h. all_mapped (λ text. IsFormula (sheet_formula taken book.tables s.id text)) (stored_text book) s.pool
        (all_of (IsPooled n (scene_in book) (Some s.id)) (λ formula. IsFormula (sheet_formula taken book.tables s.id (stored_text book formula))) (λ formula kept. formula_there _ formula (sheet_back s.id formula kept)) s.pool h.formulas))
        book.sheets (pools_valid book valid));
    bodies = all_mapped (λ (name : DefinedName). IsFormula (body_formula taken book.tables name.sheet_id name.formula)) (defined_name_of book) book.definitions
        (all_of (IsKeptBody n (scene_in book)) (λ (d : Definition). IsFormula (body_formula taken book.tables d.scope (body_text book d.has_equals d.body))) (λ d kept. formula_there _ d.body (body_back d kept)) book.definitions bodies_kept);
  }

  back : (P : machine.Book → Type 0) → P (whole_of book) → P (book_of taken book.language book.tables)
  back P h = subst P (sym read_back) h

  pub meets_all : MeetsAll taken book.language book.tables
  meets_all SheetCount = back valid_machine.HasSheets valid.whole.sheets
  meets_all SheetNames = back valid_machine.HasSheetNames valid.whole.sheet_names
  meets_all SheetIds = back valid_machine.HasSheetIds valid.whole.sheet_ids
  meets_all Definitions = back valid_machine.HasDefinitions valid.whole.definitions
  meets_all Texts = texts_there
  meets_all Places = back valid_machine.HoldsInSheet valid.whole.inside
  meets_all Formulas =
      back (λ (b : machine.Book). AllByRecursion HasFormulas b.sheets)
      (all_of (valid_machine.HasCellFormulas n (machine.scene_in (whole_of book))) HasFormulas (formulas_there n (machine.scene_in (whole_of book))) (whole_of book).sheets valid.whole.formulas)
  meets_all Strings = all_mapped (HasStrings (length book.strings)) (worksheet_of book) book.sheets valid.strings
  meets_all Styles = back valid_machine.HasStyles valid.whole.styles
  meets_all Arrays = back valid_machine.HasArrays valid.whole.arrays
  meets_all Merges = back valid_machine.HasMerges valid.whole.merges
  meets_all Layout = back (λ (b : machine.Book). AllByRecursion valid_machine.HasLayout b.sheets) valid.whole.layout
