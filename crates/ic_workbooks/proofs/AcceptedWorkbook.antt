-- A workbook that meets what is asked of it stands for a valid book.
use Rattle.std.proofs.Common.{◌≡◌, ◌∙◌, ◌<◌, ℕ, zero, suc, ℤ, pos, List, [], ◌∷◌, map, length, Bool, true, false, not, Option, Some, None, is_none, is_some, option_map, refl, sym, ap, ap₂, subst, arith, if◌then◌else◌}
use Rattle.std.specs.FinMap as finite
use Rattle.std.specs.List.{AllByRecursion, IsDistinct}
use Rattle.std.specs.Option.{option_or}
use Rattle.std.specs.Prelude.{bytes_eq, codes, option_and_then}
use Rattle.std.proofs.lemmas.Bool.{not-false as so}
use Rattle.ic_laws.specs.Binding.{bound}
use Rattle.ic_laws.specs.CoreBook.{CellPlace, Sheet as CoreSheet, spelling_of}
use Rattle.ic_laws.specs.Dialect.{DialectMeaning}
use Rattle.ic_laws.specs.FormulaReading.{without_equals}
use Rattle.ic_laws.specs.Name.{agrees}
use Rattle.ic_laws.specs.Notations.{AreNotations, HasFunction, IsShownForm, Notations, english, english_function}
use Rattle.ic_laws.specs.ReadAs.{read_as}
use Rattle.ic_laws.specs.Reading.{Reads}
use Rattle.ic_laws.specs.Refusal.{Refusal, InvalidLocale, InvalidLanguage, InvalidTimezone, first_refusal}
use Rattle.ic_laws.specs.Scene.{SheetsDiffer, past_front}
use Rattle.ic_laws.specs.Token.{FunHead, Ref, Spells, Token}
use Rattle.ic_laws.specs.Tree.{Kind, Spelled}
use Rattle.ic_laws.specs.ValidCore.{IsKeptBody, IsKeptFormula, IsPlaceInside, IsPooled, LiesWhere}
use Rattle.ic_laws.specs.Yield.{yield}
use Rattle.ic_laws.specs.declared.scene.NameSpelling.{NameSpelling}
use Rattle.ic_laws.specs.declared.scene.Scene.{Scene}
use Rattle.ic_laws.specs.declared.scene.SheetName.{SheetName}
use Rattle.ic_laws.specs.declared.tree.Formula.{Formula}
use Rattle.ic_laws.specs.declared.tree.Formula.TheVariants as formulas
use Rattle.ic_laws.specs.declared.tree.NameMention.{NameMention}
use Rattle.ic_laws.specs.declared.tree.SheetMention.{SheetMention}
use Rattle.ic_laws.specs.declared.tree.Tree.TheOpen as one
use Rattle.ic_laws.proofs.kept.Everywhere.{every_both}
use Rattle.ic_laws.proofs.kept.Kept.{CanBeKeptWhere, bound_is_kept, bound_kept}
use Rattle.ic_laws.proofs.kept.Tokens.{OfToken, lexed_all, nodes_of_tokens}
use Rattle.ic_laws.proofs.parsing.ReadAs.{read_as_sound}
use Rattle.ic_tables.specs.Tables.{IsWellFormed, TableSet, language_of, lists_zone, locale_of}
use Rattle.ic_cells.specs.declared.cell.Cell.{Cell}
use Rattle.ic_cells.specs.declared.sheet.Worksheet.{Worksheet}
use Rattle.ic_cells.specs.declared.workbook.DefinedName.{DefinedName}
use Rattle.ic_cells.specs.declared.workbook.Workbook.{Workbook}
use Rattle.ic_tree.proofs.NotationLaws.{knows_language_is, knows_locale_is, notations_are}
use Rattle.ic_tree.specs.Notations.{in_english, notations_of}
use Rattle.ic_machine.proofs.contents.AlikeGrid.{get-seen}
use Rattle.ic_machine.proofs.valid.ValidLemmas.{all_of}
use Rattle.ic_machine.specs.Book as machine
use Rattle.ic_machine.specs.Book.{core_sheet}
use Rattle.ic_machine.specs.Content.{content_of, formula_in, formula_index}
use Rattle.ic_machine.specs.Valid as valid_machine
use Rattle.ic_parts.specs.Book.{HasString}
use Rattle.ic_workbooks.specs.HandedIn.{Arrays, Definitions, Formulas, HasFormulaAt, HasFormulas, HasStrings, IsFormula, IsReferenceInside, Layout, MeetsAll, Merges, Places, RefersInside, SheetCount, SheetIds, SheetNames, Strings, Styles, Texts, body_formula, book_of, definition_of, formula_of, formula_or_none, if_own, notation_refusal, scene_of, sheet_formula, sheet_of}
use Rattle.ic_workbooks.specs.Workbook.{text_in}
use Rattle.ic_workbooks.proofs.HandedInLemmas.{all_mapped}
use Rattle.ic_parts.proofs.WholeLemmas.{amount_seen}

-- the formula of a text ----

module _ (d : DialectMeaning) (functions : List ℕ → Option ℕ) (scene : Scene) (scope : Option ℕ) (text : List ℕ) where
  own_is : (formula other : Formula) → if_own d scene text formula ≡ Some other → formula ≡ other
  own_is formula other e = by_test (bytes_eq (text_in d scene formula) text) e
    where
      by_test : (b : Bool) → (if b then Some formula else None) ≡ Some other → formula ≡ other
      by_test true e = cc
      by_test false e = cc

  -- a raw text, or the tree that was read
  pub formula_by : (P : Formula → Type 0) → ((rest : List ℕ) → P (formulas.Raw rest)) → ((t : Spelled) → read_as d text ≡ Some t → P (formulas.Tree (bound functions scene scope t)))
      → (formula : Formula) → formula_of d functions scene scope text ≡ Some formula → P formula
  formula_by P raw tree formula e = by_front (past_front (codes ")") text) (read_as d text) refl e
    where
      by_front : (front : Option (List ℕ)) (o : Option Spelled) → read_as d text ≡ o
          → option_and_then (if_own d scene text) (option_or (option_map formulas.Raw front) (option_map (λ t. formulas.Tree (bound functions scene scope t)) o)) ≡ Some formula → P formula
      by_front (Some rest) o reads e = subst P (own_is (formulas.Raw rest) formula e) (raw rest)
      by_front None (Some t) reads e = subst P (own_is (formulas.Tree (bound functions scene scope t)) formula e) (tree t reads)
      by_front None None reads e = cc

pub formula_here : (o : Option Formula) → IsFormula o → (formula : Formula) × (o ≡ Some formula)
formula_here None h = absurd h
formula_here (Some formula) h = (formula, refl)

-- what reads in the stored form is kept where it is bound
module _ (n : Notations) (notations : AreNotations n) where
  stored_can_be_kept : (text : List ℕ) (t : Spelled) → read_as n.stored text ≡ Some t → CanBeKeptWhere n (λ place. Unit {0}) t
  stored_can_be_kept text t read =
      let reads : Reads n.stored text t = read_as_sound n.stored notations.stored text t read in record {
        well = reads.well;
        parts = nodes_of_tokens (λ place. Unit {0}) (HasFunction n) n.stored t (lexed_all n.stored (OfToken (λ place. Unit {0}) (HasFunction n)) each text (yield n.stored t) reads.tokens);
      }
    where
      each : (token : Token) (front rest : List ℕ) → Spells n.stored token front rest → OfToken (λ place. Unit {0}) (HasFunction n) token
      each (Ref reference) front rest h = tt
      each (FunHead number) front rest h = notations.stored_finds h.0 number h.2
      each token front rest h = tt

  stored_kept : (scene : Scene) → SheetsDiffer scene → (scope : Option ℕ) (text : List ℕ) (formula : Formula) → formula_of n.stored (english_function n) scene scope text ≡ Some formula → IsPooled n scene scope formula
  stored_kept scene differ scope text =
      formula_by n.stored (english_function n) scene scope text (IsPooled n scene scope) (λ rest. tt)
      (λ t read. bound_kept n notations scene scope (λ place. Unit {0}) differ t (stored_can_be_kept text t read))

-- lists ----

one_in : (P : Formula → Type 0) (pool : List Formula) (index : ℕ) → AllByRecursion P pool → index < length pool → P (formula_in pool index)
one_in P [] index h lt = absurd (omega (arith, lt))
one_in P (formula ∷ pool) zero h lt = h.0
one_in P (formula ∷ pool) (suc index) h lt = one_in P pool index h.1 (omega (arith, lt))

all_with : {X : Type 0} (P Q R : X → Type 0) → ((x : X) → P x → Q x → R x) → (xs : List X) → AllByRecursion P xs → AllByRecursion Q xs → AllByRecursion R xs
all_with P Q R both [] h k = tt
all_with P Q R both (x ∷ xs) h k = (both x h.0 k.0, all_with P Q R both xs h.1 k.1)

-- a formula of a sheet whose references lie in the sheet at a cell is kept there
kept_at : (n : Notations) (scene : Scene) (scope : Option ℕ) (row column : ℤ) (formula : Formula) → IsPooled n scene scope formula → RefersInside row column formula → IsKeptFormula n scene scope row column formula
kept_at n scene scope row column (formulas.Tree t) h inside = record {
  well = h.well;
  settled = h.settled;
  parts = every_both (LiesWhere n (λ place. Unit {0})) (λ pair. Unit {0}) (IsReferenceInside row column) (λ pair. Unit {0}) (LiesWhere n (IsPlaceInside row column)) (λ pair. Unit {0})
      (λ kind a b. by_kind kind a b) (λ pair a b. tt) t h.parts inside;
}
  where
    by_kind : (kind : Kind SheetMention NameMention) → LiesWhere n (λ place. Unit {0}) kind → IsReferenceInside row column kind → LiesWhere n (IsPlaceInside row column) kind
    by_kind (one.Reference sheet place) a b = b
    by_kind (one.Fun number arguments) a b = a
    by_kind kind a b = tt
kept_at n scene scope row column (formulas.Raw text) h inside = tt

formulas_kept : (n : Notations) (scene : Scene) (s : machine.Sheet) → valid_machine.IsKeptPool n scene s → HasFormulas s → valid_machine.HasCellFormulas n scene s
formulas_kept n scene s pool h = λ place content e. at place (formula_index content) (h place content e)
  where
    at : (place : CellPlace) (index : Option ℕ) → HasFormulaAt s.pool place index → valid_machine.HasFormula n scene s place index
    at place None h = tt
    at place (Some index) h = (h.0, kept_at n scene (Some s.id) place.0 place.1 (formula_in s.pool index) (one_in (IsPooled n scene (Some s.id)) s.pool index pool h.0) h.1)

-- no refusal ----

none_of : (a b c : Bool) (r s t : Refusal) → first_refusal ((a, r) ∷ (b, s) ∷ (c, t) ∷ []) ≡ None → (a ≡ false) × (b ≡ false) × (c ≡ false)
none_of true b c r s t e = cc
none_of false true c r s t e = cc
none_of false false true r s t e = cc
none_of false false false r s t e = (refl, refl, refl)

pub some_there : {X : Type 0} (o : Option X) → is_none o ≡ false → is_some o ≡ true
some_there None e = cc
some_there (Some x) e = refl

-- the book that the records stand for ----

module _ (w : Workbook) (language : List ℕ) (tables : TableSet) where
  abbrev book : machine.Book
  book = book_of w language tables

  abbrev n : Notations
  n = notations_of tables

  sheets_named : (sheets : List Worksheet) → map (λ (s : CoreSheet). let named : SheetName = record { id = s.id; name = s.name } in named) (map core_sheet (map (sheet_of w tables) sheets))
      ≡ map (λ (s : Worksheet). let named : SheetName = record { id = s.sheet_id; name = s.name } in named) sheets
  sheets_named [] = refl
  sheets_named (s ∷ sheets) = ap (λ (rest : List SheetName). let named : SheetName = record { id = s.sheet_id; name = s.name } in named ∷ rest) (sheets_named sheets)

  names_spelled : (names : List DefinedName) → map spelling_of (map (definition_of w tables) names) ≡ map (λ (d : DefinedName). let spelling : NameSpelling = record { name = d.name; scope = d.sheet_id } in spelling) names
  names_spelled [] = refl
  names_spelled (d ∷ names) = ap (λ (rest : List NameSpelling). let spelling : NameSpelling = record { name = d.name; scope = d.sheet_id } in spelling ∷ rest) (names_spelled names)

  pub same_scene : machine.scene_in book ≡ scene_of w
  same_scene = ap₂ (λ (sheets : List SheetName) (names : List NameSpelling). let scene : Scene = record { sheets = sheets; names = names } in scene) (sheets_named w.worksheets) (names_spelled w.defined_names)

  same_names : (sheets : List Worksheet) → map (λ (m : SheetName). m.name) (map (λ (s : Worksheet). let named : SheetName = record { id = s.sheet_id; name = s.name } in named) sheets)
      ≡ map (λ (s : machine.Sheet). s.name) (map (sheet_of w tables) sheets)
  same_names [] = refl
  same_names (s ∷ sheets) = ap (λ (rest : List (List ℕ)). s.name ∷ rest) (same_names sheets)

  module _ (tables_good : IsWellFormed tables) (free : notation_refusal w language tables ≡ None) (meets : MeetsAll w language tables) where
    notations : AreNotations n
    notations = notations_are tables tables_good

    differ : SheetsDiffer (scene_of w)
    differ = subst (IsDistinct agrees) (sym (same_names w.worksheets)) (meets SheetNames).differ

    english_form : IsShownForm n (in_english tables (pos 1) (pos 1)) (pos 1) (pos 1)
    english_form = notations.shown english english (pos 1) (pos 1) notations.english_locale notations.english_language

    sheet_formula_kept : (id : ℕ) (text : List ℕ) → IsFormula (sheet_formula w tables id text) → IsPooled n (scene_of w) (Some id) (formula_or_none (sheet_formula w tables id text))
    sheet_formula_kept id text h =
        let found = formula_here (sheet_formula w tables id text) h in
        subst (λ o. IsPooled n (scene_of w) (Some id) (formula_or_none o)) (sym found.1) (stored_kept n notations (scene_of w) differ (Some id) text found.0 found.1)

    body_kept : (scope : Option ℕ) (text : List ℕ) → IsFormula (body_formula w tables scope text) → IsKeptFormula n (scene_of w) scope (pos 1) (pos 1) (formula_or_none (body_formula w tables scope text))
    body_kept scope text h =
        let found = formula_here (body_formula w tables scope text) h in
        subst (λ o. IsKeptFormula n (scene_of w) scope (pos 1) (pos 1) (formula_or_none o)) (sym found.1)
        (formula_by (in_english tables (pos 1) (pos 1)) (english_function n) (scene_of w) scope (without_equals text) (IsKeptFormula n (scene_of w) scope (pos 1) (pos 1)) (λ rest. tt)
        (λ t read. bound_is_kept n notations (scene_of w) differ (in_english tables (pos 1) (pos 1)) (pos 1) (pos 1) english_form (without_equals text) t read scope) found.0 found.1)

    pools_kept : AllByRecursion (valid_machine.IsKeptPool n (scene_of w)) book.sheets
    pools_kept =
        all_mapped (valid_machine.IsKeptPool n (scene_of w)) (sheet_of w tables) w.worksheets
        (all_of (λ (s : Worksheet). AllByRecursion (λ text. IsFormula (sheet_formula w tables s.sheet_id text)) s.shared_formulas) (λ (s : Worksheet). valid_machine.IsKeptPool n (scene_of w) (sheet_of w tables s))
        (λ s h. all_mapped (IsPooled n (scene_of w) (Some s.sheet_id)) (λ text. formula_or_none (sheet_formula w tables s.sheet_id text)) s.shared_formulas
        (all_of (λ text. IsFormula (sheet_formula w tables s.sheet_id text)) (λ text. IsPooled n (scene_of w) (Some s.sheet_id) (formula_or_none (sheet_formula w tables s.sheet_id text))) (sheet_formula_kept s.sheet_id) s.shared_formulas h))
        w.worksheets (meets Texts).sheets)

    bodies_kept : AllByRecursion (IsKeptBody n (scene_of w)) book.definitions
    bodies_kept =
        all_mapped (IsKeptBody n (scene_of w)) (definition_of w tables) w.defined_names
        (all_of (λ (name : DefinedName). IsFormula (body_formula w tables name.sheet_id name.formula)) (λ (name : DefinedName). IsKeptBody n (scene_of w) (definition_of w tables name))
        (λ name h. body_kept name.sheet_id name.formula h) w.defined_names (meets Texts).bodies)

    -- the numbers of its cells
    amounts_there : (s : Worksheet) → HasStrings (length w.shared_strings) s → valid_machine.HasAmounts (sheet_of w tables s)
    amounts_there s h place content e = at (finite.get s.cells place) (h place) (sym (get-seen (content_of w.shared_strings) s.cells place) ∙ e)
      where
        at : (o : Option Cell) → ((cell : Cell) → o ≡ Some cell → HasString (length w.shared_strings) cell) → option_map (content_of w.shared_strings) o ≡ Some content → valid_machine.HasAmount content
        at None has f = absurd (cc)
        at (Some cell) has f =
            let same : content_of w.shared_strings cell ≡ content = cc in
            subst valid_machine.HasAmount same (amount_seen w.shared_strings (length w.shared_strings) cell (has cell refl))

    there : (is_none (locale_of tables w.settings.locale) ≡ false) × (not (lists_zone tables w.settings.tz) ≡ false) × (is_none (language_of tables language) ≡ false)
    there = none_of (is_none (locale_of tables w.settings.locale)) (not (lists_zone tables w.settings.tz)) (is_none (language_of tables language)) InvalidLocale InvalidTimezone InvalidLanguage free

    pub accepted_valid : valid_machine.IsValidBook book
    accepted_valid = record {
      sheets = meets SheetCount;
      sheet_names = meets SheetNames;
      sheet_ids = meets SheetIds;
      definitions = meets Definitions;
      kept = record {
        pools = subst (λ scene. AllByRecursion (valid_machine.IsKeptPool n scene) book.sheets) (sym same_scene) pools_kept;
        bodies = subst (λ scene. AllByRecursion (IsKeptBody n scene) book.definitions) (sym same_scene) bodies_kept;
      };
      inside = meets Places;
      formulas = subst (λ scene. AllByRecursion (valid_machine.HasCellFormulas n scene) book.sheets) (sym same_scene)
          (all_with (valid_machine.IsKeptPool n (scene_of w)) HasFormulas (valid_machine.HasCellFormulas n (scene_of w)) (formulas_kept n (scene_of w)) book.sheets pools_kept (meets Formulas));
      styles = meets Styles;
      arrays = meets Arrays;
      merges = meets Merges;
      layout = meets Layout;
      amounts = all_mapped valid_machine.HasAmounts (sheet_of w tables) w.worksheets
          (all_of (HasStrings (length w.shared_strings)) (λ (s : Worksheet). valid_machine.HasAmounts (sheet_of w tables s)) amounts_there w.worksheets (meets Strings));
      locale = knows_locale_is tables w.settings.locale ∙ some_there (locale_of tables w.settings.locale) there.0;
      language = knows_language_is tables language ∙ some_there (language_of tables language) there.2;
      zone = so (lists_zone tables w.settings.tz) there.1;
      tables = tables_good;
    }
