-- Where a sheet gets a name, each mention that was found stands as it did.
use Rattle.std.proofs.Common.{◌≡◌, ℕ, ℤ, zero, suc, List, [], ◌∷◌, ◌++◌, map, Bool, true, false, if◌then◌else◌, Option, None, Some, refl, sym, ap, ap₂, subst}
use Rattle.std.specs.Prelude.{option_map, option_to_list, slice_get}
use Rattle.std.specs.BTreeMap.{is_at}
use Rattle.std.proofs.lemmas.List.Folds.{flat_map-map}
use Rattle.std.proofs.lemmas.Map.Made.{lookup-map_values}
use Rattle.std.proofs.lemmas.Option.{slice_get-map}
use Rattle.std.proofs.lemmas.Simd.{map-map}
use Rattle.ic_laws.proofs.binding.Induction.{every_of_all}
use Rattle.ic_laws.proofs.keeping.Sheets.{renamed}
use Rattle.ic_laws.specs.BookTrees.{BookKeepsFound, BothOrNone, DefinitionKeepsFound, FormulaKeepsFound, KeepsFound, LeavesFoundLocal, LeavesFoundName, LeavesFoundSheet, SheetKeepsFound, with_body_tree, with_cell_trees, with_tree, with_trees}
use Rattle.ic_laws.specs.Changes.{changed_local, changed_sheet, changed_tree, changed_word, dangles_by, sheet_named}
use Rattle.ic_laws.specs.CoreBook.{CoreBook, Definition, Sheet, formula_at, greatest_id, place_cmp}
use Rattle.ic_laws.specs.CoreStep.{updated_at, with_sheet_name}
use Rattle.ic_laws.specs.Greatest.{greatest}
use Rattle.ic_laws.specs.Mentions.{LocalMention, OfMentions}
use Rattle.ic_laws.specs.Tree.{Bound, Kind}
use Rattle.ic_laws.specs.declared.scene.Scene.{Scene}
use Rattle.ic_laws.specs.declared.tree.Formula.{Formula}
use Rattle.ic_laws.specs.declared.tree.Formula.TheVariants as formulas
use Rattle.ic_laws.specs.declared.tree.NameMention.{NameMention}
use Rattle.ic_laws.specs.declared.tree.NameMention.TheVariants as names
use Rattle.ic_laws.specs.declared.tree.SheetMention.{SheetMention}
use Rattle.ic_laws.specs.declared.tree.SheetMention.TheVariants as sheets
use Rattle.ic_laws.specs.declared.tree.Tree.TheOpen as one

-- a tree, of which dangling sheet mentions alone change
abbrev chosen : Bool → SheetMention → SheetMention → NameMention → LocalMention
chosen b s other m = if b then (s, m) else (other, m)

chosen_word : (b : Bool) (s other : SheetMention) (m : NameMention) → (chosen b s other m).1 ≡ m
chosen_word true s other m = refl
chosen_word false s other m = refl

pub naming_keeps : (scene : Scene) (id : ℕ) (name : List ℕ) (scope : Option ℕ) (t : Bound) → KeepsFound t (changed_tree (sheet_named scene id name) scope t)
naming_keeps scene id name scope t = record {
  sheet = f;
  name = g;
  local = l;
  same = refl;
  leaves = every_of_all (OfMentions (LeavesFoundSheet f) (LeavesFoundName g) (LeavesFoundLocal l)) (λ pair. Unit {0}) each (λ pair. tt) t;
}
  where
    f : SheetMention → SheetMention
    f = changed_sheet (sheet_named scene id name)

    g : NameMention → NameMention
    g = changed_word (sheet_named scene id name) scope

    l : SheetMention → NameMention → LocalMention
    l = changed_local (sheet_named scene id name)

    local_sheet : (s : SheetMention) (m : NameMention) → LeavesFoundSheet (λ x. (l x m).0) s
    local_sheet sheets.Own m = refl
    local_sheet (sheets.Sheet i) m = refl
    local_sheet (sheets.Dangling typed) m = tt

    local_name : (s : SheetMention) (m : NameMention) → LeavesFoundName (λ x. (l s x).1) m
    local_name s (names.Var word) = chosen_word (dangles_by name s) (sheets.Sheet id) s (names.Var word)
    local_name s (names.Name key) = chosen_word (dangles_by name s) (sheets.Sheet id) s (names.Name key)
    local_name s (names.Dangling word) = tt

    of_sheet : (m : SheetMention) → LeavesFoundSheet f m
    of_sheet sheets.Own = refl
    of_sheet (sheets.Sheet i) = refl
    of_sheet (sheets.Dangling typed) = tt

    of_word : (m : NameMention) → LeavesFoundName g m
    of_word (names.Var word) = refl
    of_word (names.Name key) = refl
    of_word (names.Dangling word) = tt

    each : (kind : Kind SheetMention NameMention) → OfMentions (LeavesFoundSheet f) (LeavesFoundName g) (LeavesFoundLocal l) kind
    each (one.Reference sheet place) = of_sheet sheet
    each (one.Local sheet word) = (of_sheet sheet, (local_sheet sheet word, local_name sheet word))
    each (one.Word word) = of_word word
    each (one.Call word arguments) = of_word word
    each kind = tt

-- each item beside what a function makes of it
both_of : {A : Type 0} (R : A → A → Type 0) (f : A → A) → ((a : A) → R a (f a)) → (o : Option A) → BothOrNone R o (option_map f o)
both_of R f each None = tt
both_of R f each (Some a) = each a

both_mapped : {A : Type 0} (R : A → A → Type 0) (f : A → A) → ((a : A) → R a (f a)) → (xs : List A) (i : ℕ) → BothOrNone R (slice_get xs i) (slice_get (map f xs) i)
both_mapped R f each xs i = subst (BothOrNone R (slice_get xs i)) (sym (slice_get-map f xs i)) (both_of R f each (slice_get xs i))

both_updated : {A : Type 0} (R : A → A → Type 0) (f g : A → A) → ((a : A) → R a (f a)) → ((a : A) → R a (g (f a))) → (xs : List A) (at i : ℕ) → BothOrNone R (slice_get xs i) (slice_get (updated_at g at (map f xs)) i)
both_updated R f g each here [] at i = tt
both_updated R f g each here (x ∷ xs) zero zero = here x
both_updated R f g each here (x ∷ xs) zero (suc i) = both_mapped R f each xs i
both_updated R f g each here (x ∷ xs) (suc at) zero = each x
both_updated R f g each here (x ∷ xs) (suc at) (suc i) = both_updated R f g each here xs at i

-- a book, where each tree keeps what was found in it and a sheet gets a name
module _ (f : Option ℕ → Bound → Bound) (keeps : (scope : Option ℕ) (t : Bound) → KeepsFound t (f scope t)) where
  formula_keeps : (scope : Option ℕ) (formula : Formula) → FormulaKeepsFound formula (with_tree (f scope) formula)
  formula_keeps scope (formulas.Tree t) = keeps scope t
  formula_keeps scope (formulas.Raw text) = refl

  cells_keep : (sheet : Sheet) (row column : ℤ) → BothOrNone FormulaKeepsFound (formula_at sheet.cells row column) (formula_at (with_cell_trees f sheet).cells row column)
  cells_keep sheet row column =
      subst (BothOrNone FormulaKeepsFound (formula_at sheet.cells row column)) (sym (lookup-map_values (with_tree (f (Some sheet.id))) (is_at (place_cmp (row, column))) sheet.cells))
      (both_of FormulaKeepsFound (with_tree (f (Some sheet.id))) (formula_keeps (Some sheet.id)) (formula_at sheet.cells row column))

  pub renamed_keeps : (book : CoreBook) (index : ℕ) (name : List ℕ) → BookKeepsFound book (with_sheet_name index name (with_trees f book))
  renamed_keeps book index name = record {
    sheets = both_updated SheetKeepsFound (with_cell_trees f) (renamed name) (λ sheet. record { id = refl; formulas = cells_keep sheet }) (λ sheet. record { id = refl; formulas = cells_keep sheet }) book.sheets index;
    definitions = both_mapped DefinitionKeepsFound (with_body_tree f) (λ definition. record { name = refl; scope = refl; has_equals = refl; body = formula_keeps definition.scope definition.body }) book.definitions;
  }

-- ids stay where trees are replaced
pub greatest_stays : (f : Option ℕ → Bound → Bound) (book : CoreBook) → greatest_id (with_trees f book) ≡ greatest_id book
greatest_stays f book =
    ap greatest
    (ap₂ ◌++◌ (map-map (λ (s : Sheet). s.id) (with_cell_trees f) book.sheets)
    (flat_map-map (λ (d : Definition). option_to_list d.scope) (with_body_tree f) book.definitions))
