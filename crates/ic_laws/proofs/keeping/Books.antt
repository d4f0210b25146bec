-- All formulas of a book at once: facts of each tree, and books in which each tree is replaced.
use Rattle.std.proofs.Common.{◌≡◌, ℕ, ℤ, pos, List, [], ◌∷◌, map, Option, Some, refl, ap, ap₂}
use Rattle.std.specs.List.{AllByRecursion}
use Rattle.ic_laws.specs.BookTrees.{EachTree, OfBody, OfCells, OfTree, with_body_tree, with_cell_trees, with_tree, with_trees}
use Rattle.ic_laws.specs.Binding.{IsSettled}
use Rattle.ic_laws.specs.CoreBook.{Cells, CellPlace, CoreBook, Definition, Sheet, scene_of}
use Rattle.ic_laws.specs.Keeping.{KeyChange, kept, kept_formula, kept_in_body, kept_on_sheet, with_kept}
use Rattle.ic_laws.specs.Notations.{Notations, english_function}
use Rattle.ic_laws.specs.Tree.{Bound}
use Rattle.ic_laws.specs.ValidCore.{IsKeptFormula, IsValidCore, IsValidDefinition, IsValidSheet}
use Rattle.ic_laws.specs.declared.scene.Scene.{Scene}
use Rattle.ic_laws.specs.declared.tree.Formula.{Formula}
use Rattle.ic_laws.specs.declared.tree.Formula.TheVariants as formulas

abbrev pub Cell : Type 0
Cell = CellPlace × Formula

all_weaker : {X : Type 0} (P Q : X → Type 0) → ((x : X) → P x → Q x) → (xs : List X) → AllByRecursion P xs → AllByRecursion Q xs
all_weaker P Q f [] h = tt
all_weaker P Q f (x ∷ xs) h = (f x h.0, all_weaker P Q f xs h.1)

all_both : {X : Type 0} (P Q R : X → Type 0) → ((x : X) → P x → Q x → R x) → (xs : List X) → AllByRecursion P xs → AllByRecursion Q xs → AllByRecursion R xs
all_both P Q R f [] h k = tt
all_both P Q R f (x ∷ xs) h k = (f x h.0 k.0, all_both P Q R f xs h.1 k.1)

of_tree_both : (P Q R : Bound → Type 0) → ((t : Bound) → P t → Q t → R t) → (formula : Formula) → OfTree P formula → OfTree Q formula → OfTree R formula
of_tree_both P Q R f (formulas.Tree t) h k = f t h k
of_tree_both P Q R f (formulas.Raw text) h k = tt

-- a fact of each tree that follows from two
pub each_both : (P Q R : Option ℕ → Bound → Type 0) → ((scope : Option ℕ) (t : Bound) → P scope t → Q scope t → R scope t) → (book : CoreBook) → EachTree P book → EachTree Q book → EachTree R book
each_both P Q R f book h k = record {
  cells = all_both (OfCells P) (OfCells Q) (OfCells R) (λ sheet. all_both _ _ _ (λ (cell : Cell). of_tree_both _ _ _ (f (Some sheet.id)) cell.1) sheet.cells) book.sheets h.cells k.cells;
  bodies = all_both (OfBody P) (OfBody Q) (OfBody R) (λ definition. of_tree_both _ _ _ (f definition.scope) definition.body) book.definitions h.bodies k.bodies;
}

-- or from one
pub each_weaker : (P R : Option ℕ → Bound → Type 0) → ((scope : Option ℕ) (t : Bound) → P scope t → R scope t) → (book : CoreBook) → EachTree P book → EachTree R book
each_weaker P R f book h = each_both P P R (λ scope t p q. f scope t p) book h h

-- each tree of a book is settled
pub trees_settled : (n : Notations) (book : CoreBook) → IsValidCore n book → EachTree (IsSettled (english_function n) (scene_of book)) book
trees_settled n book valid = record {
  cells = all_weaker (IsValidSheet n scene) (OfCells P) (λ sheet v. all_weaker _ _ (λ (cell : Cell) c. of_formula (Some sheet.id) cell.0.0 cell.0.1 cell.1 c.formula) sheet.cells v.cells) book.sheets valid.sheets;
  bodies = all_weaker (IsValidDefinition n scene) (OfBody P) (λ definition v. of_formula definition.scope (pos 1) (pos 1) definition.body v.body) book.definitions valid.definitions;
}
  where
    scene : Scene
    scene = scene_of book

    P : Option ℕ → Bound → Type 0
    P = IsSettled (english_function n) scene

    of_formula : (scope : Option ℕ) (row column : ℤ) (formula : Formula) → IsKeptFormula n scene scope row column formula → OfTree (P scope) formula
    of_formula scope row column (formulas.Tree t) h = h.settled
    of_formula scope row column (formulas.Raw text) h = tt

map_by_each : {X Y : Type 0} (P : X → Type 0) (f g : X → Y) → ((x : X) → P x → f x ≡ g x) → (xs : List X) → AllByRecursion P xs → map f xs ≡ map g xs
map_by_each P f g same [] h = refl
map_by_each P f g same (x ∷ xs) h = ap₂ ◌∷◌ (same x h.0) (map_by_each P f g same xs h.1)

-- books in which trees are replaced by equal ones are equal
module _ (n : Notations) (before after : Scene) (change : KeyChange) (f : Option ℕ → Bound → Bound) where
  abbrev Becomes : Option ℕ → Bound → Type 0
  Becomes scope t = kept (english_function n) before after change scope t ≡ f scope t

  formula_same : (scope : Option ℕ) (formula : Formula) → OfTree (Becomes scope) formula → kept_formula (english_function n) before after change scope formula ≡ with_tree (f scope) formula
  formula_same scope (formulas.Tree t) h = ap (λ (u : Bound). let g : Formula = formulas.Tree u in g) h
  formula_same scope (formulas.Raw text) h = refl

  sheet_same : (sheet : Sheet) → OfCells Becomes sheet → kept_on_sheet n before after change sheet ≡ with_cell_trees f sheet
  sheet_same sheet h =
      ap (λ (cells : Cells). let s : Sheet = record sheet { cells = cells } in s)
      (map_by_each _ (λ (cell : Cell). (cell.0, kept_formula (english_function n) before after change (Some sheet.id) cell.1)) (λ (cell : Cell). (cell.0, with_tree (f (Some sheet.id)) cell.1))
      (λ cell e. ap (λ (g : Formula). (cell.0, g)) (formula_same (Some sheet.id) cell.1 e)) sheet.cells h)

  body_same : (definition : Definition) → OfBody Becomes definition → kept_in_body n before after change definition ≡ with_body_tree f definition
  body_same definition h = ap (λ (body : Formula). let d : Definition = record definition { body = body } in d) (formula_same definition.scope definition.body h)

  -- a book is kept as the book with each tree replaced by what it is kept as
  pub kept_as : (book : CoreBook) → EachTree Becomes book → with_kept n before after change book ≡ with_trees f book
  kept_as book h =
      ap₂ (λ (ss : List Sheet) (ds : List Definition). let b : CoreBook = record book { sheets = ss; definitions = ds } in b)
      (map_by_each _ (kept_on_sheet n before after change) (with_cell_trees f) sheet_same book.sheets h.cells)
      (map_by_each _ (kept_in_body n before after change) (with_body_tree f) body_same book.definitions h.bodies)

each_is : {X : Type 0} (P : X → Type 0) (f : X → X) → ((x : X) → P x → f x ≡ x) → (xs : List X) → AllByRecursion P xs → map f xs ≡ xs
each_is P f same [] h = refl
each_is P f same (x ∷ xs) h = ap₂ ◌∷◌ (same x h.0) (each_is P f same xs h.1)

-- a book whose trees are replaced by themselves is the same
module _ (f : Option ℕ → Bound → Bound) where
  abbrev Stays : Option ℕ → Bound → Type 0
  Stays scope t = f scope t ≡ t

  formula_is : (scope : Option ℕ) (formula : Formula) → OfTree (Stays scope) formula → with_tree (f scope) formula ≡ formula
  formula_is scope (formulas.Tree t) h = ap (λ (u : Bound). let g : Formula = formulas.Tree u in g) h
  formula_is scope (formulas.Raw text) h = refl

  sheet_is : (sheet : Sheet) → OfCells Stays sheet → with_cell_trees f sheet ≡ sheet
  sheet_is sheet h =
      ap (λ (cells : Cells). let s : Sheet = record sheet { cells = cells } in s)
      (each_is _ (λ (cell : Cell). (cell.0, with_tree (f (Some sheet.id)) cell.1)) (λ cell e. ap (λ (g : Formula). (cell.0, g)) (formula_is (Some sheet.id) cell.1 e)) sheet.cells h)

  body_is : (definition : Definition) → OfBody Stays definition → with_body_tree f definition ≡ definition
  body_is definition h = ap (λ (body : Formula). let d : Definition = record definition { body = body } in d) (formula_is definition.scope definition.body h)

  pub trees_same : (book : CoreBook) → EachTree Stays book → with_trees f book ≡ book
  trees_same book h =
      ap₂ (λ (ss : List Sheet) (ds : List Definition). let b : CoreBook = record book { sheets = ss; definitions = ds } in b)
      (each_is _ (with_cell_trees f) sheet_is book.sheets h.cells)
      (each_is _ (with_body_tree f) body_is book.definitions h.bodies)
