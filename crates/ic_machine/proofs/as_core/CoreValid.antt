-- The core of a valid book is a valid core book, and stays one.
use Rattle.std.proofs.Common.{◌≡◌, ℕ, ◌<◌, ◌≤◌, List, [], ◌∷◌, ◌++◌, map, Bool, true, cond, Option, Some, None, Ok, Err, refl, sym, ap, subst, ◌∙◌, inl, inr, T}
use Rattle.std.proofs.lemmas.Bool.{cases_Bool}
use Rattle.std.proofs.lemmas.List.{length-map}
use Rattle.std.specs.Cmp.{IsTotalOrder, eq_by_cmp_equiv}
use Rattle.std.specs.FinMap as finite
use Rattle.std.specs.FinMap.Entries as entries
use Rattle.std.specs.List.{AllByRecursion, IsDistinct}
use Rattle.std.specs.List.Sorted.{IsStrictlySortedBy}
use Rattle.std.specs.Ordering.{eq_by_cmp, is_lt}
use Rattle.std.specs.Option.{option_to_list}
use Rattle.std.specs.Prelude.{nat_eq, option_map}
use Rattle.std.specs.declared.cmp.Ordering.{Ordering}
use Rattle.std.specs.declared.cmp.Ordering.TheVariants.{Less}
use Rattle.ic_laws.proofs.core.CellWritten.{place_cmp_total}
use Rattle.ic_laws.proofs.core.Steps.{step_keeps}
use Rattle.ic_laws.proofs.kept.TreeFacts.{tree_facts}
use Rattle.ic_laws.specs.Command as core
use Rattle.ic_laws.specs.CoreBook as core_book
use Rattle.ic_laws.specs.CoreBook.{CellPlace, Cells, CoreBook, Definition, IsId, last_id, place_cmp}
use Rattle.ic_laws.specs.CoreStep.{Outcome, core_step}
use Rattle.ic_laws.specs.Name.{agrees, is_identifier, is_sheet_name}
use Rattle.ic_laws.specs.Notations.{Notations}
use Rattle.ic_laws.specs.ValidCore.{IsKeptBody, IsKeptCell, IsScope, IsValidCore, IsValidDefinition, IsValidSheet}
use Rattle.ic_laws.specs.declared.scene.Scene.{Scene}
use Rattle.ic_tree.proofs.NotationLaws.{notations_are}
use Rattle.ic_grid.specs.Block.{is_in_sheet}
use Rattle.ic_grid.specs.Conditions.{AreInSheet}
use Rattle.ic_machine.specs.Book.{Book, Entry, Sheet, Stepped, core_cells, core_of, core_sheet, notations_in, scene_in}
use Rattle.ic_machine.specs.Command.{Command}
use Rattle.ic_machine.specs.Content.{Content, formula_in, formula_index, held}
use Rattle.ic_machine.specs.Core.{IsSteppedAs, core_command, told_by, told_by_core}
use Rattle.ic_machine.specs.Reply.{Field, of_core_fields}
use Rattle.ic_machine.specs.Step.{step}
use Rattle.ic_machine.specs.Valid.{HasCellFormulas, HasFormula, IsValidBook}
use Rattle.ic_machine.proofs.as_core.FormulaLemmas.{below_tied, find_below, first_of_two, is_less, second_of_two, sorted_made}
use Rattle.ic_machine.proofs.as_core.SteppedLemmas.{stepped}
use Rattle.ic_cells.proofs.ColumnLemmas.{tie as is_equal}
use Rattle.ic_laws.proofs.General.{map-map as map_twice}

-- what is found in entries in order holds of each of them ----

module _ {K X : Type 0} (R : K → K → Ordering) (o : IsTotalOrder R) (P : K → X → Type 0) where
  pub each_found : (es : List (K × X)) → T (finite.is_sorted R es) → ((k : K) (x : X) → finite.find R k es ≡ Some x → P k x) → AllByRecursion (λ (e : K × X). P e.0 e.1) es
  each_found [] sorted h = tt
  each_found (e ∷ es) sorted h = (
    h e.0 e.1 (ap (λ (t : Bool). cond t (Some e.1) (finite.find R e.0 es)) (tied e.0)),
    each_found es (second_of_two (entries.below_all R e.0 es) (finite.is_sorted R es) sorted) (λ k x f. h k x (later k x f)),
  )
    where
      tied : (k : K) → eq_by_cmp R k k ≡ true
      tied k = (eq_by_cmp_equiv o).refl k

      later : (k : K) (x : X) → finite.find R k es ≡ Some x → cond (eq_by_cmp R k e.0) (Some e.1) (finite.find R k es) ≡ Some x
      later k x f = elim (cases_Bool (eq_by_cmp R k e.0)) [
        | inl t ↦
            let none : finite.find R k es ≡ None = find_below R k es (below_tied R o k e.0 es (is_equal (R k e.0) t) (first_of_two (entries.below_all R e.0 es) (finite.is_sorted R es) sorted)) in
            let never : None ≡ Some x = sym none ∙ f in cc
        | inr n ↦ ap (λ (t : Bool). cond t (Some e.1) (finite.find R k es)) n ∙ f
      ]

all_below : {K X : Type 0} (R : K → K → Ordering) (x : K) (es : List (K × X)) → T (entries.below_all R x es) → AllByRecursion (λ y. R x y ≡ Less) (map (λ (e : K × X). e.0) es)
all_below R x [] h = tt
all_below R x (e ∷ es) h = (is_less (R x e.0) (first_of_two (is_lt (R x e.0)) (entries.below_all R x es) h), all_below R x es (second_of_two (is_lt (R x e.0)) (entries.below_all R x es) h))

in_order : {K X : Type 0} (R : K → K → Ordering) (es : List (K × X)) → T (finite.is_sorted R es) → IsStrictlySortedBy R (map (λ (e : K × X). e.0) es)
unfolding IsStrictlySortedBy
in_order R [] h = tt
in_order R (e ∷ es) h = (all_below R e.0 es (first_of_two (entries.below_all R e.0 es) (finite.is_sorted R es) h), in_order R es (second_of_two (entries.below_all R e.0 es) (finite.is_sorted R es) h))

-- the cells of a sheet ----

module _ (n : Notations) (scene : Scene) (s : Sheet) where
  abbrev IsCell : CellPlace → Content → Type 0
  IsCell place content = (is_in_sheet place ≡ true) × HasFormula n scene s place (formula_index content)

  one_cell : (place : CellPlace) (o : Option ℕ) (rest : Cells) → is_in_sheet place ≡ true → HasFormula n scene s place o → AllByRecursion (IsKeptCell n scene s.id) rest
      → AllByRecursion (IsKeptCell n scene s.id) (option_to_list (option_map (λ index. (place, formula_in s.pool index)) o) ++ rest)
  one_cell place None rest inside h all = all
  one_cell place (Some index) rest inside h all = (record { inside = inside; formula = h.1 }, all)

  all_cells : (es : List Entry) → AllByRecursion (λ (e : Entry). IsCell e.0 e.1) es → AllByRecursion (IsKeptCell n scene s.id) (core_cells s.pool es)
  all_cells [] h = tt
  all_cells (e ∷ es) h = one_cell e.0 (formula_index e.1) (core_cells s.pool es) h.0.0 h.0.1 (all_cells es h.1)

  sheet_valid : IsId s.id → is_sheet_name s.name ≡ true → AreInSheet held s.grid.contents → HasCellFormulas n scene s → IsValidSheet n scene (core_sheet s)
  sheet_valid id name inside formulas = record {
    id = id;
    name = name;
    ordered = in_order place_cmp (core_cells s.pool (finite.entries s.grid.contents)) (sorted_made place_cmp formula_index (formula_in s.pool) (finite.entries s.grid.contents) (finite.entries_sorted s.grid.contents));
    cells = all_cells (finite.entries s.grid.contents)
        (each_found place_cmp place_cmp_total IsCell (finite.entries s.grid.contents) (finite.entries_sorted s.grid.contents)
        (λ place content f. let at = finite.get-entries s.grid.contents place ∙ f in (inside place content at, formulas place content at)));
  }

pub all_sheets : (n : Notations) (scene : Scene) (sheets : List Sheet) → AllByRecursion (λ (s : Sheet). IsId s.id) sheets → AllByRecursion (λ (s : Sheet). is_sheet_name s.name ≡ true) sheets
    → AllByRecursion (λ (s : Sheet). AreInSheet held s.grid.contents) sheets → AllByRecursion (HasCellFormulas n scene) sheets → AllByRecursion (IsValidSheet n scene) (map core_sheet sheets)
all_sheets n scene [] ids names inside formulas = tt
all_sheets n scene (s ∷ sheets) ids names inside formulas =
    (sheet_valid n scene s ids.0 names.0 inside.0 formulas.0, all_sheets n scene sheets ids.1 names.1 inside.1 formulas.1)

all_definitions : (n : Notations) (scene : Scene) (definitions : List Definition) → AllByRecursion (λ (d : Definition). is_identifier d.name ≡ true) definitions
    → AllByRecursion (λ (d : Definition). IsScope d.scope) definitions → AllByRecursion (IsKeptBody n scene) definitions → AllByRecursion (IsValidDefinition n scene) definitions
all_definitions n scene [] names scopes bodies = tt
all_definitions n scene (d ∷ definitions) names scopes bodies =
    (record { name = names.0; scope = scopes.0; body = bodies.0 }, all_definitions n scene definitions names.1 scopes.1 bodies.1)

-- the core ----

pub core_valid : (b : Book) → IsValidBook b → IsValidCore (notations_in b) (core_of b)
core_valid b valid = record {
  some_sheet = subst (λ n. 0 < n) (sym (length-map b.sheets core_sheet)) valid.sheets.some;
  few = subst (λ n. n ≤ last_id) (sym (length-map b.sheets core_sheet)) valid.sheets.few;
  sheets = all_sheets (notations_in b) (scene_in b) b.sheets valid.sheet_ids.ids valid.sheet_names.names valid.inside valid.formulas;
  definitions = all_definitions (notations_in b) (scene_in b) b.definitions valid.definitions.names valid.definitions.scopes valid.kept.bodies;
  ids_differ = subst (IsDistinct nat_eq) (map_twice core_sheet (λ (s : core_book.Sheet). s.id) b.sheets) valid.sheet_ids.differ;
  names_differ = subst (IsDistinct agrees) (map_twice core_sheet (λ (s : core_book.Sheet). s.name) b.sheets) valid.sheet_names.differ;
  keys_differ = valid.definitions.differ;
  locale = valid.locale;
  language = valid.language;
}

left_valid : (b after : Book) (k : core.Command) (fields : List Field) → IsValidBook b → (o : Outcome) → core_step (notations_in b) (core_of b) k ≡ o → told_by_core o ≡ Ok (core_of after, fields)
    → IsValidCore (notations_in b) (core_of after)
left_valid b after k fields valid (Err refusal) e told = cc
left_valid b after k fields valid (Ok done) e told =
    let is : ◌≡◌ {A = CoreBook × List Field} (done.0, of_core_fields done.1) (core_of after, fields) = cc in
    subst (IsValidCore (notations_in b)) (ap (λ (p : CoreBook × List Field). p.0) is)
    (step_keeps (notations_in b) (notations_are b.tables valid.tables) (tree_facts (notations_in b) (notations_are b.tables valid.tables)) (core_of b) (core_valid b valid) k done.0 done.1 e)

pub core_stays : (b after : Book) (command : Command) (k : core.Command) (fields : List Field) → IsValidBook b → core_command command ≡ Some k → step b command ≡ Ok (after, fields)
    → IsValidCore (notations_in b) (core_of after)
core_stays b after command k fields valid is e =
    left_valid b after k fields valid (core_step (notations_in b) (core_of b) k) refl
    (sym (subst (IsSteppedAs b command) is (stepped b command)) ∙ ap (λ (s : Stepped Book). told_by s) e)
