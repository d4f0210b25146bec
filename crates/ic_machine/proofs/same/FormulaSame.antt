-- What is written of a formula in another notation reads there as the same formula; and so a formula that is written, or
-- typed, or written into an array, leaves the same.
use Rattle.std.proofs.Common.{◌≡◌, ◌≢◌, ℕ, ℤ, List, [], ◌∷◌, Bool, true, false, cond, Option, Some, None, Ok, refl, sym, ap, ap₂, subst, ◌∙◌}
use Rattle.std.proofs.lemmas.Bool.{and_from}
use Rattle.std.specs.List.{slice_get}
use Rattle.std.specs.Prelude.{is_none, option_and_then, option_map, pos, unwrap_or}
use Rattle.ic_laws.specs.Binding.{spelled}
use Rattle.ic_laws.specs.Character.{equals}
use Rattle.ic_laws.specs.CoreBook.{CellPlace, CoreBook}
use Rattle.ic_laws.specs.FormulaReading.{cell_formula, shown_at}
use Rattle.ic_laws.specs.Notations.{Notations, english, is_cell}
use Rattle.ic_laws.specs.Reading.{printed}
use Rattle.ic_laws.specs.Tree.{Bound}
use Rattle.ic_laws.specs.ValidCore.{IsKeptFormula}
use Rattle.ic_laws.specs.declared.scene.Scene.{Scene}
use Rattle.ic_laws.specs.declared.tree.Formula.{Formula}
use Rattle.ic_laws.specs.declared.tree.Formula.TheVariants as formulas
use Rattle.ic_tables.specs.Tables.{TableSet, language_of, locale_of}
use Rattle.ic_tables.specs.declared.language.FunctionKind.{FunctionKind}
use Rattle.ic_tree.specs.Notations.{notations_of}
use Rattle.ic_cells.specs.declared.cell.ArrayKind.TheVariants as arrays
use Rattle.ic_cells.specs.declared.value.FormulaValue.TheVariants as fvalues
use Rattle.ic_input.specs.Typed.{formula_of, typed}
use Rattle.ic_input.specs.declared.input.Typed.TheVariants as kinds
use Rattle.ic_machine.specs.Book.{Book, Sheet, core_of, notations_in, scene_in}
use Rattle.ic_machine.specs.Command.{OnWriting}
use Rattle.ic_machine.specs.Content.{AnchorContent, FormulaContent}
use Rattle.ic_machine.specs.InForce.{all_there, by_notation, formula_typed, in_force, typed_in}
use Rattle.ic_machine.specs.Placed.{index_in_pool, is_dynamic, pool_with}
use Rattle.ic_machine.specs.Refusal.{NotAFormula, first_refusal}
use Rattle.ic_machine.specs.Reply.{Field}
use Rattle.ic_machine.specs.Retyped.{clashes_in}
use Rattle.ic_machine.specs.Same.{IsSameBook, IsSameSheet, unstyled}
use Rattle.ic_machine.specs.Step.{step}
use Rattle.ic_machine.specs.Translation.{Why, cell_text, formula_in_cell, in_notation, why_not, written_formula}
use Rattle.ic_machine.specs.TranslationLaws.{FormulaIsSame, IsWritable, LeavesSame}
use Rattle.ic_machine.specs.Valid.{IsValidBook}
use Rattle.ic_machine.specs.subjects.Reading.{formula_text}
use Rattle.ic_machine.specs.subjects.Writing as writing
use Rattle.ic_machine.specs.subjects.Writing.{formula_at_place, formula_content, formula_step, formula_written}
use Rattle.ic_machine.proofs.valid.BesideLemmas.{twin_valid}
use Rattle.ic_machine.proofs.valid.RetypedLemmas.{formula_told, read_again, some_shown}
use Rattle.ic_machine.proofs.valid.RetypedLemmas as retyped
use Rattle.ic_machine.proofs.same.SameLemmas.{core_same}
use Rattle.ic_machine.proofs.bound.SceneLemmas.{placed}
use Rattle.ic_machine.proofs.same.WritingSame.{WritesSame, write_again}
use Rattle.ic_machine.proofs.valid.WritingSteps.{text_kept}

-- a formula that can be written is a tree, of which no name is a word of the language
pub tree_unclashed : (target : Book) (t : Bound) → why_not target (formulas.Tree t) ≡ None → clashes_in target t ≡ false
tree_unclashed target t e = go (clashes_in target t) e
  where
    go : (b : Bool) → cond b (Some Why.Clash) None ≡ None → b ≡ false
    go true h = absurd (cc)
    go false h = refl

writable_tree : (target : Book) (formula : Formula) → why_not target formula ≡ None → (t : Bound) × (formula ≡ formulas.Tree t) × (clashes_in target t ≡ false)
writable_tree target (formulas.Raw text) e = absurd (cc)
writable_tree target (formulas.Tree t) e = (t, refl, tree_unclashed target t e)

-- A book that has the tables and the names of another, in the other's notation. ----

module _ (c left : Book) (tables : left.tables ≡ c.tables) where
  abbrev pub target : Book
  target = in_notation c.locale c.language left

  pub force_same : in_force target ≡ in_force c
  force_same = ap (λ (t : TableSet). all_there (locale_of t c.locale) (language_of t c.language) (language_of t english)) tables

  pub typed_there : (text : List ℕ) → typed_in target text ≡ typed_in c text
  typed_there text = ap (by_notation (kinds.Text text) (λ f. typed f.locale f.language f.beside text)) force_same

  pub told_there : (text : List ℕ) → formula_typed target text ≡ formula_typed c text
  told_there text = ap (by_notation None (λ f. formula_of f.locale text)) force_same

  pub shown_there : scene_in left ≡ scene_in c → (place : CellPlace) (t : Bound)
      → formula_text target place (formulas.Tree t) ≡ equals ∷ printed (shown_at (notations_in c) (core_of c) place.0 place.1) (spelled (scene_in c) t)
  shown_there names place t = ap₂ (λ (n : Notations) (scene : Scene). equals ∷ printed (n.shown c.locale c.language place.0 place.1) (spelled scene t)) (ap notations_of tables) names

-- A formula that a text has in a cell, written in the other notation. ----

-- what is shown of it, without the equals sign; and what that is in the other book
pub record IsAgain (c left : Book) (t : Sheet) (place : CellPlace) (formula : Formula) : Type 0 where
  pub shown : List ℕ
  pub some : shown ≢ []
  pub text : cell_text (in_notation c.locale c.language left) place (Some formula) ≡ equals ∷ shown
  pub typed : typed_in c (equals ∷ shown) ≡ kinds.Formula shown
  pub told : formula_typed c (equals ∷ shown) ≡ Some shown
  pub reads : formula_at_place c t place shown ≡ formula

module _ (b c : Book) (valid : IsValidBook b) (valid_there : IsValidBook (in_notation c.locale c.language b)) (same : IsSameBook b c) (left : Book) (tables : left.tables ≡ c.tables) (names : scene_in left ≡ scene_in b)
    (index : ℕ) (s t : Sheet) (at : slice_get b.sheets index ≡ Some s) (there : slice_get c.sheets index ≡ Some t) (sheets : IsSameSheet s t) where
  -- a text in a cell there, and in the same cell of this book in that notation
  at_place_there : (place : CellPlace) (shown : List ℕ) → formula_at_place c t place shown ≡ formula_at_place (in_notation c.locale c.language b) s place shown
  at_place_there place shown =
      ap (λ (n : Notations). cell_formula n (core_of c) t.id place.0 place.1 shown) (ap notations_of (sym same.tables))
      ∙ ap₂ (λ (core : CoreBook) (id : ℕ). cell_formula (notations_in b) core id place.0 place.1 shown) (core_same b c same) (sym sheets.id)

  pub formula_again : (place : CellPlace) → is_cell place.0 place.1 ≡ true → (body : List ℕ) → why_not (in_notation c.locale c.language b) (formula_at_place b s place body) ≡ None
      → IsAgain c left t place (formula_at_place b s place body)
  formula_again place cell body writable =
      let tree = writable_tree (in_notation c.locale c.language b) (formula_at_place b s place body) writable in
      let u : Bound = tree.0 in
      let twin : Book = in_notation c.locale c.language b in
      let kept : IsKeptFormula (notations_in b) (scene_in b) (Some s.id) place.0 place.1 (formulas.Tree u) =
      subst (IsKeptFormula (notations_in b) (scene_in b) (Some s.id) place.0 place.1) tree.1 (text_kept b valid index s at place body) in
      let shown : List ℕ = printed (shown_at (notations_in twin) (core_of twin) place.0 place.1) (spelled (scene_in twin) u) in
      record {
        shown = shown;
        some = some_shown twin valid_there (Some s.id) place cell u kept tree.2;
        text = ap (λ (formula : Formula). formula_text (in_notation c.locale c.language left) place formula) tree.1 ∙ shown_there twin left (tables ∙ sym same.tables) names place u;
        typed = sym (typed_there c b same.tables (equals ∷ shown)) ∙ retyped.formula_typed twin valid_there (Some s.id) place cell u kept tree.2;
        told = sym (told_there c b same.tables (equals ∷ shown)) ∙ formula_told twin valid_there (Some s.id) place cell u kept tree.2;
        reads = at_place_there place shown ∙ read_again twin valid_there index s at place cell u kept tree.2 ∙ sym tree.1;
      }

-- the same formula is written, whatever its style
bare_formula : (dynamic : Bool) (index m n : ℕ)
    → unstyled (cond dynamic (AnchorContent index (pos 1, pos 1) arrays.Dynamic fvalues.Unevaluated m) (FormulaContent index fvalues.Unevaluated m))
    ≡ unstyled (cond dynamic (AnchorContent index (pos 1, pos 1) arrays.Dynamic fvalues.Unevaluated n) (FormulaContent index fvalues.Unevaluated n))
bare_formula true index m n = refl
bare_formula false index m n = refl

pub formulas_same : (b c : Book) → b.tables ≡ c.tables → (s t : Sheet) → s.pool ≡ t.pool → (formula : Formula) → WritesSame (formula_written b s formula) (formula_written c t formula)
formulas_same b c tables s t pools formula = record {
  content = λ m n.
      bare_formula (is_dynamic b.tables.kinds formula) (index_in_pool formula s.pool) m n
      ∙ ap₂ (λ (functions : List FunctionKind) (pool : List Formula). unstyled (formula_content functions formula (index_in_pool formula pool) n)) (ap (λ (set : TableSet). set.kinds) tables) pools;
  pool = ap (pool_with formula) pools;
}

-- by two texts that have it
pub texts_same : (b c : Book) → b.tables ≡ c.tables → (s t : Sheet) → s.pool ≡ t.pool → (one other formula : Formula) → one ≡ formula → other ≡ formula
    → WritesSame (formula_written b s one) (formula_written c t other)
texts_same b c tables s t pools one other formula e h =
    subst (λ (x : Formula). WritesSame (formula_written b s x) (formula_written c t other)) (sym e)
    (subst (λ (x : Formula). WritesSame (formula_written b s formula) (formula_written c t x)) (sym h) (formulas_same b c tables s t pools formula))

-- a formula that is written ----

told_formula : (o : Option (List ℕ)) → first_refusal ((is_none o, NotAFormula) ∷ []) ≡ None → (text : List ℕ) × (o ≡ Some text)
told_formula None e = absurd (cc)
told_formula (Some text) e = (text, refl)

abbrev FormulaStays : (book left other : Book) (sheet : ℕ) (row column : ℤ) (text locale language : List ℕ) → Type 0
FormulaStays book left other sheet row column text locale language =
    IsWritable locale language book (OnWriting (writing.UpdateCellWithFormula sheet row column text))
    → LeavesSame left (step other (OnWriting (writing.UpdateCellWithFormula sheet row column (cell_text (in_notation locale language left) (row, column) (written_formula book (writing.UpdateCellWithFormula sheet row column text))))))

module _ (b left c : Book) (valid : IsValidBook b) (valid_there : IsValidBook (in_notation c.locale c.language b)) (same : IsSameBook b c) (fields : List Field) (index : ℕ) (row column : ℤ) (text : List ℕ)
    (e : step b (OnWriting (writing.UpdateCellWithFormula index row column text)) ≡ Ok (left, fields)) where
  formula_stays : FormulaStays b left c index row column text c.locale c.language
  unfolding formula_step
  formula_stays writable =
      let place : CellPlace = (row, column) in
      let new : List ℕ = cell_text (in_notation c.locale c.language left) place (written_formula b (writing.UpdateCellWithFormula index row column text)) in
      write_again b c same index place (λ s. formula_written b s (formula_at_place b s place (unwrap_or (formula_typed b text) [])))
      (λ t. formula_written c t (formula_at_place c t place (unwrap_or (formula_typed c new) []))) ((is_none (formula_typed b text), NotAFormula) ∷ []) ((is_none (formula_typed c new), NotAFormula) ∷ []) left fields e
      (λ s t at there sheets done.
      let told = told_formula (formula_typed b text) done.clear in
      let formula : Formula = formula_at_place b s place told.0 in
      let is : written_formula b (writing.UpdateCellWithFormula index row column text) ≡ Some formula =
      ap (option_and_then (formula_in_cell b index place)) told.1 ∙ ap (option_map (λ (sheet : Sheet). formula_at_place b sheet place told.0)) at in
      let again = formula_again b c valid valid_there same left (ap (λ (x : Book). x.tables) done.is ∙ same.tables)
      (ap scene_in done.is ∙ placed b index s (writing.with_content place _ _ s) at refl) index s t at there sheets place (and_from _ _ done.row done.column) told.0
      (ap (option_and_then (why_not (in_notation c.locale c.language b))) (sym is) ∙ writable) in
      let new_is : new ≡ equals ∷ again.shown = ap (cell_text (in_notation c.locale c.language left) place) is ∙ again.text in
      let found : formula_typed c new ≡ Some again.shown = ap (formula_typed c) new_is ∙ again.told in (
        texts_same b c same.tables s t sheets.pool _ _ formula (ap (λ (o : Option (List ℕ)). formula_at_place b s place (unwrap_or o [])) told.1)
            (ap (λ (o : Option (List ℕ)). formula_at_place c t place (unwrap_or o [])) found ∙ again.reads),
        ap (λ (o : Option (List ℕ)). first_refusal ((is_none o, NotAFormula) ∷ [])) found,
      ))

pub formula_is_same : (locale language : List ℕ) → FormulaIsSame locale language
formula_is_same locale language book left other fields sheet row column text beside e =
    subst (λ (l : List ℕ). FormulaStays book left other sheet row column text l language) beside.locale_is
    (subst (λ (l : List ℕ). FormulaStays book left other sheet row column text other.locale l) beside.language_is
    (formula_stays book left other beside.valid (twin_valid locale language book other beside) beside.same fields sheet row column text e))
