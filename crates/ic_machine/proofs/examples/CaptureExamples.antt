-- What an update captures, by example: a definition x is mentioned under a variable y, and gets the name y, or z.
use mathlib.Core.Path.{fun_ext}
use Rattle.std.proofs.Common.{◌≡◌, ℕ, ◌++◌, cond, pos, List, [], ◌∷◌, true, false, Bool, Option, Some, None, Ok, Err, codes, ap, ap₂, refl, ◌∙◌}
use Rattle.std.specs.FinMap as finite
use Rattle.std.specs.List.{zip}
use Rattle.std.specs.Prelude.{flat_map, is_none, not}
use Rattle.caseless.proofs.Computing.{caseless}
use Rattle.ucd_derived.proofs.Computing.{ucd_derived}
use Rattle.ic_laws.specs.Binding.{BoundPair, bound_pair_of}
use Rattle.ic_laws.specs.CoreStep.{has_definition}
use Rattle.ic_laws.specs.FormulaReading.{Body}
use Rattle.ic_laws.specs.Name.{is_identifier}
use Rattle.ic_laws.specs.Keeping.{KeyChange, changed_key, kept}
use Rattle.ic_laws.specs.Notations.{english_function}
use Rattle.ic_laws.specs.Tree.{Bound}
use Rattle.ic_laws.specs.declared.scene.Scene.{Scene}
use Rattle.ic_laws.specs.declared.tree.BinarySign.TheVariants as signs
use Rattle.ic_laws.specs.declared.tree.LetPair.{fold-roll-LetPair}
use Rattle.ic_laws.specs.declared.tree.NameKey.{NameKey}
use Rattle.ic_laws.specs.declared.tree.NameMention.{NameMention}
use Rattle.ic_laws.specs.declared.tree.NameMention.TheVariants as names
use Rattle.ic_laws.specs.declared.tree.SheetMention.{SheetMention}
use Rattle.ic_laws.specs.declared.tree.Tree.{fold-roll-Tree, map-Tree}
use Rattle.ic_laws.specs.declared.tree.Tree.TheOpen as one
use Rattle.ic_laws.proofs.binding.Again.{BoundKind, bound_node, bound-node, spelled-node}
use Rattle.ic_tree.specs.Notations.{notations_of}
use Rattle.ic_machine.specs.Capture.{captured, captured_at, captured_body, captured_cells, captured_sites, has_sites, words_in, words_step}
use Rattle.ic_cells.specs.declared.value.FormulaValue.TheVariants as values
use Rattle.ic_laws.proofs.core.CellWritten.{place_cmp_total}
use Rattle.ic_laws.specs.CoreBook.{CellPlace, Definition}
use Rattle.ic_laws.specs.declared.tree.Formula.{Formula}
use Rattle.ic_laws.specs.declared.tree.Formula.TheVariants as formulas
use Rattle.ic_cells.specs.Maps.{place_cmp}
use Rattle.ic_machine.specs.Book.{Book, Entry, Sheet, Stepped, core_of, empty_grid, empty_sheet, notations_in, unless_refused}
use Rattle.ic_machine.specs.Content.{Content, FormulaContent, formula_index}
use Rattle.ic_machine.specs.Refusal.{CellSite, DefinitionSite, InvalidFormula, InvalidName, InvalidScope, NameExists, NameNotFound, Site, WouldCapture}
use Rattle.ic_machine.specs.Reply.{bool_field}
use Rattle.ic_machine.specs.subjects.Definitions.{Update, keys_of_update, meets_other, old_key, update_body, update_name_step, update_of, with_body, would_capture_step}
use Rattle.ic_machine.proofs.as_core.CoreLemmas.{no_cells}
use Rattle.ic_machine.proofs.examples.Small.{start, tables}

-- the words of a value of LET, and those of a node by those below it
abbrev pair_words : BoundPair → List (Option NameMention)
pair_words pair = words_in pair.value

pub words-node : (kind : BoundKind) → words_in (bound_node kind) ≡ words_step (map-Tree SheetMention NameMention Bound BoundPair (List (Option NameMention)) (List (Option NameMention)) words_in pair_words kind)
words-node kind =
    fold-roll-Tree SheetMention NameMention (List (Option NameMention)) (List (Option NameMention)) words_step (λ pair. pair.value) kind
    ∙ ap (λ (g : BoundPair → List (Option NameMention)). words_step (map-Tree SheetMention NameMention Bound BoundPair (List (Option NameMention)) (List (Option NameMention)) words_in g kind))
    (fun_ext (λ pair. fold-roll-LetPair SheetMention NameMention (List (Option NameMention)) (List (Option NameMention)) words_step (λ pair. pair.value) (record { variable = pair.variable; value = pair.value })))

-- LET(y,1,_+y) with a word in its place
abbrev pub formula : NameMention → Bound
formula mention =
    bound_node (one.Let (bound_pair_of (codes "y") (bound_node (one.Num (pos 1000000000))) ∷ [])
    (bound_node (one.Binary signs.Plus (bound_node (one.Word mention)) (bound_node (one.Word (names.Var (codes "y")))))))

abbrev pub key : List ℕ → NameKey
key name = record { name = name; scope = None }

-- one sheet, and one definition of this name
abbrev scene : List ℕ → Scene
scene name = record { sheets = record { id = 1; name = codes "Sheet1" } ∷ []; names = record { name = name; scope = None } ∷ [] }

-- by the name y the word becomes the variable: it is captured
kept_as_variable : kept (english_function (notations_of tables)) (scene (codes "x")) (scene (codes "y")) (changed_key (key (codes "x")) (key (codes "y"))) (Some 1) (formula (names.Name (key (codes "x")))) ≡ formula (names.Var (codes "y"))
unfolding caseless notations_of
kept_as_variable = simp (spelled-node, bound-node)

is_captured : captured (changed_key (key (codes "x")) (key (codes "y"))) (formula (names.Name (key (codes "x")))) (formula (names.Var (codes "y"))) ≡ true
is_captured = simp (words-node)

-- by the name z it isn't
kept_as_name : kept (english_function (notations_of tables)) (scene (codes "x")) (scene (codes "z")) (changed_key (key (codes "x")) (key (codes "z"))) (Some 1) (formula (names.Name (key (codes "x")))) ≡ formula (names.Name (key (codes "z")))
unfolding caseless notations_of
kept_as_name = simp (spelled-node, bound-node)

is_not_captured : captured (changed_key (key (codes "x")) (key (codes "z"))) (formula (names.Name (key (codes "x")))) (formula (names.Name (key (codes "z")))) ≡ false
is_not_captured = simp (words-node)

-- The whole book: the definition x of the first cell, and LET(y,1,x+y) in that cell. ----

abbrev pub place : CellPlace
place = (pos 1, pos 1)

abbrev first_cell : Content
first_cell = FormulaContent 0 values.Unevaluated 0

abbrev pub sheet : Sheet
sheet = record (empty_sheet 1 (codes "Sheet1")) {
  pool = formulas.Tree (formula (names.Name (key (codes "x")))) ∷ [];
  grid = record empty_grid { contents = finite.insert finite.empty place first_cell };
}

-- whatever the definition's own body is
abbrev pub book : Formula → Book
book own = record start { sheets = sheet ∷ []; definitions = record { name = codes "x"; scope = None; has_equals = false; body = own } ∷ [] }

only_cell : finite.entries sheet.grid.contents ≡ (place, first_cell) ∷ []
only_cell = finite.entries-insert place_cmp_total finite.empty place first_cell ∙ ap (λ (es : List Entry). finite.put place_cmp place first_cell es) no_cells

-- x gets this name, with the body of this text
abbrev to : List ℕ → List ℕ → Update
to name text = update_of (codes "x") None name None text

abbrev with_formula : Bound → Sheet
with_formula t = record sheet { pool = formulas.Tree t ∷ [] }

-- what is captured in the sheet, by whether the formula is
cond_list : (c : Bool) → cond c (CellSite 1 place ∷ []) [] ++ [] ≡ cond c (CellSite 1 place ∷ []) []
cond_list true = refl
cond_list false = refl

sites_in : (keys : KeyChange) (after : Bound) (b : Bool) → captured keys (formula (names.Name (key (codes "x")))) after ≡ b → captured_cells keys (sheet, with_formula after) ≡ cond b (CellSite 1 place ∷ []) []
sites_in keys after b e =
    ap (λ (es : List Entry). flat_map (λ entry. captured_at keys sheet (with_formula after) entry.0 (formula_index entry.1)) es) only_cell
    ∙ ap (λ (c : Bool). cond c (CellSite 1 place ∷ []) [] ++ []) e ∙ cond_list b

module _ (own : Formula) (text : List ℕ) (body : Body) where
  sheets_of_y : (with_body (book own) (to (codes "y") text) (Some body)).sheets ≡ with_formula (formula (names.Var (codes "y"))) ∷ []
  unfolding caseless notations_of
  sheets_of_y = ap (λ (t : Bound). with_formula t ∷ []) kept_as_variable

  sheets_of_z : (with_body (book own) (to (codes "z") text) (Some body)).sheets ≡ with_formula (formula (names.Name (key (codes "z")))) ∷ []
  unfolding caseless notations_of
  sheets_of_z = ap (λ (t : Bound). with_formula t ∷ []) kept_as_name

  bodies_of_y : flat_map (captured_body (keys_of_update (book own) (to (codes "y") text)) (old_key (book own) (to (codes "y") text))) (zip (book own).definitions (with_body (book own) (to (codes "y") text) (Some body)).definitions) ≡ []
  unfolding caseless notations_of
  bodies_of_y = refl

  bodies_of_z : flat_map (captured_body (keys_of_update (book own) (to (codes "z") text)) (old_key (book own) (to (codes "z") text))) (zip (book own).definitions (with_body (book own) (to (codes "z") text) (Some body)).definitions) ≡ []
  unfolding caseless notations_of
  bodies_of_z = refl

  -- what is captured by an update to a name with a body, if there is one
  abbrev sites_by : List ℕ → Option Body → List Site
  sites_by name o = captured_sites (keys_of_update (book own) (to name text)) (old_key (book own) (to name text)) (book own) (with_body (book own) (to name text) o)

  sites_of_y : sites_by (codes "y") (Some body) ≡ CellSite 1 place ∷ []
  unfolding caseless notations_of
  sites_of_y =
      ap₂ ◌++◌
      (ap (λ (sheets : List Sheet). flat_map (captured_cells (keys_of_update (book own) (to (codes "y") text))) (zip (book own).sheets sheets)) sheets_of_y
      ∙ ap (λ (sites : List Site). sites ++ []) (sites_in (keys_of_update (book own) (to (codes "y") text)) (formula (names.Var (codes "y"))) true is_captured))
      bodies_of_y

  sites_of_z : sites_by (codes "z") (Some body) ≡ []
  unfolding caseless notations_of
  sites_of_z =
      ap₂ ◌++◌
      (ap (λ (sheets : List Sheet). flat_map (captured_cells (keys_of_update (book own) (to (codes "z") text))) (zip (book own).sheets sheets)) sheets_of_z
      ∙ ap (λ (sites : List Site). sites ++ []) (sites_in (keys_of_update (book own) (to (codes "z") text)) (formula (names.Name (key (codes "z")))) false is_not_captured))
      bodies_of_z

  -- the question, by the body and by the sites
  abbrev asked : List ℕ → Option Body → List Site → Stepped Book
  asked name o sites =
      unless_refused
      ((not (is_identifier name), InvalidName) ∷ (false, InvalidScope) ∷ (false, InvalidScope) ∷ (meets_other (book own) (to name text), NameExists) ∷ (is_none o, InvalidFormula)
      ∷ (not (has_definition (core_of (book own)) (codes "x") None), NameNotFound) ∷ [])
      (book own) (bool_field (has_sites sites))

  abbrev updated : List ℕ → Option Body → List Site → Stepped Book
  updated name o sites =
      unless_refused
      ((not (is_identifier name), InvalidName) ∷ (false, InvalidScope) ∷ (false, InvalidScope) ∷ (meets_other (book own) (to name text), NameExists) ∷ (is_none o, InvalidFormula)
      ∷ (not (has_definition (core_of (book own)) (codes "x") None), NameNotFound) ∷ (has_sites sites, WouldCapture sites) ∷ [])
      (with_body (book own) (to name text) o) []

  module _ (read : update_body (notations_in (book own)) (core_of (book own)) text ≡ Some body) where
    -- a text that reads makes the update of x to y one that would capture, which is told and refused; to z it isn't
    pub would_by_y : would_capture_step (to (codes "y") text) (book own) ≡ Ok (book own, bool_field true)
    unfolding caseless ucd_derived would_capture_step
    would_by_y = ap (λ (o : Option Body). asked (codes "y") o (sites_by (codes "y") o)) read ∙ ap (λ (sites : List Site). asked (codes "y") (Some body) sites) sites_of_y

    pub would_by_z : would_capture_step (to (codes "z") text) (book own) ≡ Ok (book own, bool_field false)
    unfolding caseless ucd_derived would_capture_step
    would_by_z = ap (λ (o : Option Body). asked (codes "z") o (sites_by (codes "z") o)) read ∙ ap (λ (sites : List Site). asked (codes "z") (Some body) sites) sites_of_z

    pub refused_by_y : update_name_step (to (codes "y") text) (book own) ≡ Err (WouldCapture (CellSite 1 place ∷ []))
    unfolding caseless ucd_derived update_name_step
    refused_by_y = ap (λ (o : Option Body). updated (codes "y") o (sites_by (codes "y") o)) read ∙ ap (λ (sites : List Site). updated (codes "y") (Some body) sites) sites_of_y

    pub done_by_z : update_name_step (to (codes "z") text) (book own) ≡ Ok (with_body (book own) (to (codes "z") text) (Some body), [])
    unfolding caseless ucd_derived update_name_step
    done_by_z = ap (λ (o : Option Body). updated (codes "z") o (sites_by (codes "z") o)) read ∙ ap (λ (sites : List Site). updated (codes "z") (Some body) sites) sites_of_z

-- The body of a definition is captured too, also where the sheet that this is local to is gone. ----

abbrev local_body : Bound → Definition
local_body t = record { name = codes "w"; scope = Some 9; has_equals = false; body = formulas.Tree t }

body_captured : captured_body (changed_key (key (codes "x")) (key (codes "y"))) (key (codes "x")) (local_body (formula (names.Name (key (codes "x")))), local_body (formula (names.Var (codes "y"))))
    ≡ DefinitionSite (record { name = codes "w"; scope = Some 9 }) ∷ []
unfolding caseless
body_captured = ap (λ (b : Bool). cond b (DefinitionSite (record { name = codes "w"; scope = Some 9 }) ∷ []) []) is_captured
