-- The definitions that a copy of a sheet gets, by example.
use Rattle.std.proofs.Common.{◌≡◌, cond, ℕ, pos, List, [], ◌∷◌, map, Bool, false, Option, None, Some, Ok, codes, refl, ap, ap₂, ◌∙◌}
use Rattle.std.specs.Fmt.{digits}
use Rattle.caseless.proofs.Computing.{caseless}
use Rattle.ucd_derived.proofs.Computing.{ucd_derived}
use Rattle.ic_laws.specs.Binding.{bound}
use Rattle.ic_laws.specs.CoreBook.{Definition}
use Rattle.ic_laws.specs.CoreStep.{core_step}
use Rattle.ic_laws.specs.FormulaReading.{Body, body_of, shown_body}
use Rattle.ic_laws.specs.Keeping.{kept, same_keys}
use Rattle.ic_laws.specs.Notations.{english_function}
use Rattle.ic_laws.specs.Token.{Ref}
use Rattle.ic_laws.specs.Tree.{Bound}
use Rattle.ic_laws.specs.declared.reference.Place.{Place}
use Rattle.ic_laws.specs.declared.reference.Place.TheVariants as places
use Rattle.ic_laws.specs.declared.reference.Position.TheVariants as at
use Rattle.ic_laws.specs.declared.reference.RefToken.{RefToken}
use Rattle.ic_laws.specs.declared.scene.NameSpelling.{NameSpelling}
use Rattle.ic_laws.specs.declared.scene.Scene.{Scene}
use Rattle.ic_laws.specs.declared.scene.SheetName.{SheetName}
use Rattle.ic_laws.specs.declared.tree.Formula.{Formula}
use Rattle.ic_laws.specs.declared.tree.Formula.TheVariants as formulas
use Rattle.ic_laws.specs.declared.tree.SheetMention.TheVariants as sheets
use Rattle.ic_laws.specs.declared.tree.Tree.TheOpen as one
use Rattle.ic_laws.proofs.binding.Again.{bound_node, bound-node, spelled-node}
use Rattle.ic_laws.proofs.parsing.Nodes.{yield-node}
use Rattle.ic_refs.specs.Column.{column_letters}
use Rattle.ic_tree.specs.Notations.{notations_of}
use Rattle.ic_machine.specs.Book.{Book, Sheet, core_of, empty_sheet, scene_in}
use Rattle.ic_machine.specs.Changed.{changed_by}
use Rattle.ic_machine.specs.Command.{commands}
use Rattle.ic_machine.specs.Reply.{NumberField, Reply, TextField}
use Rattle.ic_machine.specs.Step.{outcome_of}
use Rattle.ic_machine.specs.subjects.Definitions.{list_step, new_definition_step}
use Rattle.ic_machine.specs.subjects.Sheets.{copied_formula, duplicate_sheet_step, local_in, mentions_sheet, shared_about, with_copy, with_formula}
use Rattle.ic_machine.proofs.examples.CopyExamples.{no_more}
use Rattle.ic_machine.proofs.examples.Formulas.{made_by, reference, shows, small}
use Rattle.ic_machine.proofs.examples.Session.{answers, done, next, step}
use Rattle.ic_machine.proofs.examples.Small.{start}

-- the cell in this row and column, always the same one
abbrev cell : ℕ → Place
cell n = places.Cell (record { row = at.Abs (pos n); column = at.Abs (pos n) })

abbrev on : List ℕ → Place → RefToken
on name place = record { sheet = Some name; place = place }

abbrev mention : ℕ → Place → Bound
mention id place = bound_node (one.Reference (sheets.Sheet id) place)

abbrev defined : List ℕ → Option ℕ → ℕ → Place → Definition
defined name scope id place = record { name = name; scope = scope; has_equals = false; body = formulas.Tree (mention id place) }

-- one for all sheets, and two that are local to the sheet, one of them with the same name
abbrev shared : Definition
shared = defined (codes "shared") None 1 (cell 1)

abbrev own : Definition
own = defined (codes "shared") (Some 1) 1 (cell 2)

abbrev local : Definition
local = defined (codes "local_name") (Some 1) 1 (cell 1)

abbrev book : List Definition → Book
book definitions = record start { definitions = definitions }

-- ---- they are made

abbrev first_sheet : List SheetName
first_sheet = record { id = 1; name = codes "Sheet1" } ∷ []

abbrev named : List ℕ → Option ℕ → NameSpelling
named name scope = record { name = name; scope = scope }

abbrev with_names : List NameSpelling → Scene
with_names names = record { sheets = first_sheet; names = names }

binds : (names : List NameSpelling) (scope : Option ℕ) (place : Place) → bound (english_function small) (with_names names) scope (reference (on (codes "Sheet1") place)) ≡ mention 1 place
unfolding caseless notations_of
binds names scope place = simp bound-node

stays : (before after : List NameSpelling) (scope : Option ℕ) (place : Place) → kept (english_function small) (with_names before) (with_names after) same_keys scope (mention 1 place) ≡ mention 1 place
unfolding caseless notations_of
stays before after scope place = simp (spelled-node, bound-node)

abbrev body : Place → Body
body place = record { has_equals = false; tree = reference (on (codes "Sheet1") place) }

-- the body of the third, as it is bound
abbrev local_tree : List NameSpelling → Bound
local_tree names = bound (english_function small) (with_names names) (Some 1) (reference (on (codes "Sheet1") (cell 1)))

shared_body : body_of small (core_of (book [])) (codes "Sheet1!$A$1") ≡ Some (body (cell 1))
unfolding notations_of caseless ucd_derived
shared_body = refl

own_body : body_of small (core_of (book (shared ∷ []))) (codes "Sheet1!$B$2") ≡ Some (body (cell 2))
unfolding notations_of caseless ucd_derived
own_body = refl

local_body : body_of small (core_of (book (shared ∷ own ∷ []))) (codes "Sheet1!$A$1") ≡ Some (body (cell 1))
unfolding notations_of caseless ucd_derived
local_body = refl

shared_made : step (book []) (codes "new_defined_name\tshared\t-\tSheet1!$A$1") ≡ (book (shared ∷ []), Ok [])
unfolding step commands caseless ucd_derived core_step new_definition_step
shared_made =
    ap (λ (o : Option Body). outcome_of (book []) (made_by (book []) (codes "shared") None o)) shared_body
    ∙ ap (λ (t : Bound). let left : Book × Reply = (book (record shared { body = formulas.Tree t } ∷ []), Ok []) in left) (binds (named (codes "shared") None ∷ []) None (cell 1))

own_made : step (book (shared ∷ [])) (codes "new_defined_name\tshared\t0\tSheet1!$B$2") ≡ (book (shared ∷ own ∷ []), Ok [])
unfolding step commands caseless ucd_derived core_step new_definition_step
own_made =
    let before : List NameSpelling = named (codes "shared") None ∷ [] in
    let after : List NameSpelling = named (codes "shared") None ∷ named (codes "shared") (Some 1) ∷ [] in
    ap (λ (o : Option Body). outcome_of (book (shared ∷ [])) (made_by (book (shared ∷ [])) (codes "shared") (Some 0) o)) own_body
    ∙ ap₂ (λ (s t : Bound). let left : Book × Reply = (book (record shared { body = formulas.Tree s } ∷ record own { body = formulas.Tree t } ∷ []), Ok []) in left)
    (stays before after None (cell 1)) (binds after (Some 1) (cell 2))

local_made : step (book (shared ∷ own ∷ [])) (codes "new_defined_name\tlocal_name\t0\tSheet1!$A$1") ≡ (book (shared ∷ own ∷ local ∷ []), Ok [])
unfolding step commands caseless ucd_derived core_step new_definition_step
local_made =
    let before : List NameSpelling = named (codes "shared") None ∷ named (codes "shared") (Some 1) ∷ [] in
    let after : List NameSpelling = named (codes "shared") None ∷ named (codes "shared") (Some 1) ∷ named (codes "local_name") (Some 1) ∷ [] in
    ap (λ (o : Option Body). outcome_of (book (shared ∷ own ∷ [])) (made_by (book (shared ∷ own ∷ [])) (codes "local_name") (Some 0) o)) local_body
    ∙ ap₂ (λ (s t : Bound). let left : Book × Reply = (book (record shared { body = formulas.Tree s } ∷ record own { body = formulas.Tree t } ∷ record local { body = formulas.Tree (local_tree after) } ∷ []), Ok []) in left)
    (stays before after None (cell 1)) (stays before after (Some 1) (cell 2))
    ∙ ap (λ (t : Bound). let left : Book × Reply = (book (shared ∷ own ∷ record local { body = formulas.Tree t } ∷ []), Ok []) in left) (binds after (Some 1) (cell 1))

-- ---- the sheet is copied

abbrev three : Book
three = book (shared ∷ own ∷ local ∷ [])

abbrev copy_name : List ℕ
copy_name = codes "Sheet1 (1)"

abbrev copy : Sheet
copy = empty_sheet 2 copy_name

-- the definition for all sheets isn't copied, since the sheet has one of its name
none_shared : shared_about 1 (shared ∷ own ∷ local ∷ []) ≡ []
unfolding caseless
none_shared = ap (λ (more : Bool). cond more (shared ∷ []) []) (no_more (mentions_sheet 1 shared.body))

abbrev moved : List Definition → List Definition
moved others = map (local_in 2) (own ∷ local ∷ others)

abbrev copies : List Definition → List Definition
copies others = map (with_formula (copied_formula small (scene_in (with_copy 0 copy (moved others) three)) 1 2)) (moved others)

-- what is left where these are copied too
abbrev copied_with : List Definition → Book × Reply
copied_with others = (changed_by (with_copy 0 copy (copies others)) three, Ok (TextField copy_name ∷ NumberField (Some 1) ∷ []))

abbrev own_copy : Definition
own_copy = defined (codes "shared") (Some 2) 2 (cell 2)

abbrev local_copy : Definition
local_copy = defined (codes "local_name") (Some 2) 2 (cell 1)

abbrev last : Book
last = record start { sheets = empty_sheet 1 (codes "Sheet1") ∷ copy ∷ []; definitions = shared ∷ own ∷ local ∷ own_copy ∷ local_copy ∷ [] }

still_there : (scope : Option ℕ) (place : Place) → kept (english_function small) (scene_in three) (scene_in last) same_keys scope (mention 1 place) ≡ mention 1 place
unfolding caseless notations_of
still_there scope place = simp (spelled-node, bound-node)

moves : (place : Place) → copied_formula small (scene_in last) 1 2 (formulas.Tree (mention 1 place)) ≡ formulas.Tree (mention 2 place)
unfolding caseless notations_of
moves place = simp (spelled-node, bound-node)

abbrev left_by : Bound → Bound → Bound → Formula → Formula → Book × Reply
left_by a b c f g = (
  record last { definitions = record shared { body = formulas.Tree a } ∷ record own { body = formulas.Tree b } ∷ record local { body = formulas.Tree c } ∷ record own_copy { body = f } ∷ record local_copy { body = g } ∷ [] },
  Ok (TextField copy_name ∷ NumberField (Some 1) ∷ []),
)

copied : step three (codes "duplicate_sheet\t0") ≡ (last, Ok (TextField copy_name ∷ NumberField (Some 1) ∷ []))
unfolding step commands caseless duplicate_sheet_step digits
copied =
    ap copied_with none_shared
    ∙ ap₂ (λ (a b : Bound). left_by a b (kept (english_function small) (scene_in three) (scene_in last) same_keys (Some 1) (mention 1 (cell 1)))
    (copied_formula small (scene_in last) 1 2 own.body) (copied_formula small (scene_in last) 1 2 local.body)) (still_there None (cell 1)) (still_there (Some 1) (cell 2))
    ∙ ap (λ (c : Bound). left_by (mention 1 (cell 1)) (mention 1 (cell 2)) c (copied_formula small (scene_in last) 1 2 own.body) (copied_formula small (scene_in last) 1 2 local.body)) (still_there (Some 1) (cell 1))
    ∙ ap₂ (left_by (mention 1 (cell 1)) (mention 1 (cell 2)) (mention 1 (cell 1))) (moves (cell 2)) (moves (cell 1))

-- ---- the list

first_shown : shown_body small (core_of last) false (formulas.Tree (mention 1 (cell 1))) ≡ codes "Sheet1!$A$1"
unfolding caseless ucd_derived notations_of digits column_letters
first_shown = shows last (pos 1) (pos 1) (mention 1 (cell 1)) (reference (on (codes "Sheet1") (cell 1))) (Ref (on (codes "Sheet1") (cell 1)) ∷ []) (codes "Sheet1!$A$1") (simp spelled-node) (simp yield-node) refl

second_shown : shown_body small (core_of last) false (formulas.Tree (mention 1 (cell 2))) ≡ codes "Sheet1!$B$2"
unfolding caseless ucd_derived notations_of digits column_letters
second_shown = shows last (pos 1) (pos 1) (mention 1 (cell 2)) (reference (on (codes "Sheet1") (cell 2))) (Ref (on (codes "Sheet1") (cell 2)) ∷ []) (codes "Sheet1!$B$2") (simp spelled-node) (simp yield-node) refl

fourth_shown : shown_body small (core_of last) false (formulas.Tree (mention 2 (cell 2))) ≡ codes "'Sheet1 (1)'!$B$2"
unfolding caseless ucd_derived notations_of digits column_letters
fourth_shown = shows last (pos 1) (pos 1) (mention 2 (cell 2)) (reference (on copy_name (cell 2))) (Ref (on copy_name (cell 2)) ∷ []) (codes "'Sheet1 (1)'!$B$2") (simp spelled-node) (simp yield-node) refl

fifth_shown : shown_body small (core_of last) false (formulas.Tree (mention 2 (cell 1))) ≡ codes "'Sheet1 (1)'!$A$1"
unfolding caseless ucd_derived notations_of digits column_letters
fifth_shown = shows last (pos 1) (pos 1) (mention 2 (cell 1)) (reference (on copy_name (cell 1))) (Ref (on copy_name (cell 1)) ∷ []) (codes "'Sheet1 (1)'!$A$1") (simp spelled-node) (simp yield-node) refl

-- by how the bodies are shown, that for all sheets and the local one of another name alike
abbrev listed : List ℕ → List ℕ → List ℕ → List ℕ → Book × Reply
listed first second fourth fifth = (
  last,
  Ok (TextField (codes "shared") ∷ NumberField None ∷ TextField first ∷ TextField (codes "shared") ∷ NumberField (Some 0) ∷ TextField second
      ∷ TextField (codes "local_name") ∷ NumberField (Some 0) ∷ TextField first ∷ TextField (codes "shared") ∷ NumberField (Some 1) ∷ TextField fourth
      ∷ TextField (codes "local_name") ∷ NumberField (Some 1) ∷ TextField fifth ∷ []),
)

told : step last (codes "get_defined_name_list") ≡ listed (codes "Sheet1!$A$1") (codes "Sheet1!$B$2") (codes "'Sheet1 (1)'!$B$2") (codes "'Sheet1 (1)'!$A$1")
unfolding step commands caseless core_step list_step
told =
    ap₂ (λ (first second : List ℕ). listed first second (shown_body small (core_of last) false own_copy.body) (shown_body small (core_of last) false local_copy.body)) first_shown second_shown
    ∙ ap₂ (listed (codes "Sheet1!$A$1") (codes "Sheet1!$B$2")) fourth_shown fifth_shown

-- a copy gets the definitions that are local to its sheet, and they mention the copy
copied_definitions : answers start
    (codes "new_defined_name\tshared\t-\tSheet1!$A$1" ∷ codes "new_defined_name\tshared\t0\tSheet1!$B$2" ∷ codes "new_defined_name\tlocal_name\t0\tSheet1!$A$1" ∷ codes "duplicate_sheet\t0" ∷ codes "get_defined_name_list" ∷ [])
    ≡ codes "ok" ∷ codes "ok" ∷ codes "ok" ∷ codes "ok\tSheet1 (1)\t1"
    ∷ codes "ok\tshared\t-\tSheet1!$A$1\tshared\t0\tSheet1!$B$2\tlocal_name\t0\tSheet1!$A$1\tshared\t1\t'Sheet1 (1)'!$B$2\tlocal_name\t1\t'Sheet1 (1)'!$A$1" ∷ []
unfolding digits
copied_definitions = next _ _ _ _ _ _ shared_made (next _ _ _ _ _ _ own_made (next _ _ _ _ _ _ local_made (next _ _ _ _ _ _ copied (next _ _ _ _ _ _ told (done _)))))
