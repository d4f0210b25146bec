-- A definition for all sheets and one of the same name for one sheet, by example.
use Rattle.std.proofs.Common.{◌≡◌, pos, List, [], ◌∷◌, None, Some, Ok, false, codes, refl, ap, ◌∙◌}
use Rattle.caseless.proofs.Computing.{caseless}
use Rattle.ucd_derived.proofs.Computing.{ucd_derived}
use Rattle.ic_laws.specs.Binding.{bound}
use Rattle.ic_laws.specs.Character.{equals}
use Rattle.ic_laws.specs.Command.{TextField, commands}
use Rattle.ic_laws.specs.CoreBook.{CoreBook, Definition, scene_of}
use Rattle.ic_laws.specs.CoreStep.{core_step, scene_with_definition}
use Rattle.ic_laws.specs.FormulaReading.{Body, body_of, cell_formula, shown_formula}
use Rattle.ic_laws.specs.Keeping.{kept, same_keys}
use Rattle.ic_laws.specs.Lines.{outcome_of}
use Rattle.ic_laws.specs.NextToken.{bare_of, tokens_by}
use Rattle.ic_laws.specs.SheetText.{read_local}
use Rattle.ic_laws.specs.Notations.{english_function}
use Rattle.ic_laws.specs.ReadAs.{read_as}
use Rattle.ic_laws.specs.Split.{longest_split}
use Rattle.ic_laws.specs.Token.{Word}
use Rattle.ic_laws.specs.Tree.{Bound}
use Rattle.ic_laws.specs.declared.reference.Place.{Place}
use Rattle.ic_laws.specs.declared.reference.Place.TheVariants as places
use Rattle.ic_laws.specs.declared.reference.Position.TheVariants as at
use Rattle.ic_laws.specs.declared.tree.Formula.{Formula}
use Rattle.ic_laws.specs.declared.tree.Formula.TheVariants as formulas
use Rattle.ic_laws.specs.declared.tree.NameMention.{NameMention}
use Rattle.ic_laws.specs.declared.tree.NameMention.TheVariants as names
use Rattle.ic_laws.specs.declared.tree.SheetMention.TheVariants as sheets
use Rattle.ic_laws.specs.declared.tree.Tree.TheOpen as one
use Rattle.ic_laws.proofs.binding.Again.{bound_node, bound-node, spelled-node}
use Rattle.ic_laws.proofs.parsing.Nodes.{yield-node}
use Rattle.ic_tree.specs.Notations.{notations_of}
use Rattle.ic_tree.proofs.machine.Readings.{reads_word, reference, word}
use Rattle.ic_tree.proofs.machine.Session.{answers, by_body, done, next, reads, shows, step, typed}
use Rattle.ic_tree.proofs.machine.Small.{in_english, small, start}

-- the first cell of the sheet, and the second one of its first row
abbrev first_cell : Place
first_cell = places.Cell (record { row = at.Abs (pos 1); column = at.Abs (pos 1) })

abbrev second_cell : Place
second_cell = places.Cell (record { row = at.Abs (pos 1); column = at.Abs (pos 2) })

abbrev on_sheet : Place → Bound
on_sheet place = bound_node (one.Reference (sheets.Sheet 1) place)

abbrev body : Place → Body
body place = record { has_equals = false; tree = reference (record { sheet = Some (codes "Sheet1"); place = place }) }

-- the definition for all sheets, and the one for the only sheet
abbrev for_all : Definition
for_all = record { name = codes "tax"; scope = None; has_equals = false; body = formulas.Tree (on_sheet first_cell) }

abbrev for_one : Definition
for_one = record { name = codes "Tax"; scope = Some 1; has_equals = false; body = formulas.Tree (on_sheet second_cell) }

-- the formula stands in the first cell of the sheet
abbrev book : Formula → List Definition → CoreBook
book formula definitions = record {
  sheets = record { id = 1; name = codes "Sheet1"; cells = ((pos 1, pos 1), formula) ∷ [] } ∷ [];
  definitions = definitions;
  locale = codes "en";
  language = codes "en";
}

abbrev defined : List Definition → CoreBook
defined definitions = record start { definitions = definitions }

abbrev mention : NameMention → Bound
mention name = bound_node (one.Word name)

abbrev dangling : Bound
dangling = mention (names.Dangling (codes "TAX"))

abbrev found : Bound
found = mention (names.Name (record { name = codes "tax"; scope = None }))

abbrev found_local : Bound
found_local = mention (names.Name (record { name = codes "tax"; scope = Some 1 }))

-- ---- the formula, before there is a definition

tax_read : read_as (in_english (pos 1) (pos 1)) (codes "TAX") ≡ Some (word (codes "TAX"))
unfolding longest_split bare_of read_local tokens_by caseless ucd_derived
tax_read = reads (in_english (pos 1) (pos 1)) (codes "TAX") (Word (codes "TAX") ∷ []) (word (codes "TAX")) refl (reads_word (in_english (pos 1) (pos 1)) (codes "TAX") refl)

tax_dangles : bound (english_function small) (scene_of start) (Some 1) (word (codes "TAX")) ≡ dangling
unfolding caseless notations_of
tax_dangles = simp bound-node

tax_formula : cell_formula small start 1 (pos 1) (pos 1) (codes "TAX") ≡ formulas.Tree dangling
unfolding notations_of
tax_formula = typed start 1 (pos 1) (pos 1) (codes "TAX") (word (codes "TAX")) dangling tax_read tax_dangles

written : step start (codes "update_cell_with_formula\t0\t1\t1\t=TAX") ≡ (book (formulas.Tree dangling) [], Ok [])
unfolding step caseless commands core_step
written = ap (λ f. (book f [], Ok [])) tax_formula

-- ---- the definition for all sheets

is_body : body_of small (book (formulas.Tree dangling) []) (codes "Sheet1!$A$1") ≡ Some (body first_cell)
unfolding notations_of caseless ucd_derived
is_body = refl

body_bound : bound (english_function small) (scene_with_definition (book (formulas.Tree dangling) []) (codes "tax") None) None (reference (record { sheet = Some (codes "Sheet1"); place = first_cell })) ≡ on_sheet first_cell
unfolding caseless notations_of
body_bound = simp bound-node

taken : kept (english_function small) (scene_of (book (formulas.Tree dangling) [])) (scene_of (book (formulas.Tree dangling) (for_all ∷ []))) same_keys (Some 1) dangling ≡ found
unfolding caseless notations_of
taken = simp (spelled-node, bound-node)

for_all_made : step (book (formulas.Tree dangling) []) (codes "new_defined_name\ttax\t-\tSheet1!$A$1") ≡ (book (formulas.Tree found) (for_all ∷ []), Ok [])
unfolding step caseless ucd_derived commands core_step
for_all_made =
    ap (λ o. outcome_of (book (formulas.Tree dangling) []) (by_body (book (formulas.Tree dangling) []) (codes "tax") None o)) is_body
    ∙ ap (λ t. (book (formulas.Tree t) (record for_all { body = formulas.Tree (bound (english_function small) (scene_with_definition (book (formulas.Tree dangling) []) (codes "tax") None) None (reference (record { sheet = Some (codes "Sheet1"); place = first_cell }))) } ∷ []), Ok [])) taken
    ∙ ap (λ t. (book (formulas.Tree found) (record for_all { body = formulas.Tree t } ∷ []), Ok [])) body_bound

shown : shown_formula small (book (formulas.Tree found) (for_all ∷ [])) (pos 1) (pos 1) (formulas.Tree found) ≡ codes "tax"
unfolding caseless notations_of
shown = shows (book (formulas.Tree found) (for_all ∷ [])) (pos 1) (pos 1) found (word (codes "tax")) (Word (codes "tax") ∷ []) (codes "tax") (simp spelled-node) (simp yield-node) refl

told : step (book (formulas.Tree found) (for_all ∷ [])) (codes "get_cell_formula\t0\t1\t1") ≡ (book (formulas.Tree found) (for_all ∷ []), Ok (TextField (codes "=tax") ∷ []))
unfolding step caseless commands core_step
told = ap (λ text. (book (formulas.Tree found) (for_all ∷ []), Ok (TextField (equals ∷ text) ∷ []))) shown

-- ---- the one for the sheet takes the mention over

is_local_body : body_of small (book (formulas.Tree found) (for_all ∷ [])) (codes "Sheet1!$B$1") ≡ Some (body second_cell)
unfolding notations_of caseless ucd_derived
is_local_body = refl

abbrev second_tree : Bound
second_tree = bound (english_function small) (scene_with_definition (book (formulas.Tree found) (for_all ∷ [])) (codes "Tax") (Some 1)) (Some 1) (reference (record { sheet = Some (codes "Sheet1"); place = second_cell }))

local_body_bound : second_tree ≡ on_sheet second_cell
unfolding caseless notations_of
local_body_bound = simp bound-node

taken_over : kept (english_function small) (scene_of (book (formulas.Tree found) (for_all ∷ []))) (scene_of (book (formulas.Tree found) (for_all ∷ for_one ∷ []))) same_keys (Some 1) found ≡ found_local
unfolding caseless notations_of
taken_over = simp (spelled-node, bound-node)

other_body_stays : kept (english_function small) (scene_of (book (formulas.Tree found) (for_all ∷ []))) (scene_of (book (formulas.Tree found) (for_all ∷ for_one ∷ []))) same_keys None (on_sheet first_cell) ≡ on_sheet first_cell
unfolding caseless notations_of
other_body_stays = simp (spelled-node, bound-node)

abbrev first_kept : Bound
first_kept = kept (english_function small) (scene_of (book (formulas.Tree found) (for_all ∷ []))) (scene_of (book (formulas.Tree found) (for_all ∷ for_one ∷ []))) same_keys None (on_sheet first_cell)

for_one_made : step (book (formulas.Tree found) (for_all ∷ [])) (codes "new_defined_name\tTax\t0\tSheet1!$B$1") ≡ (book (formulas.Tree found_local) (for_all ∷ for_one ∷ []), Ok [])
unfolding step caseless ucd_derived commands core_step
for_one_made =
    ap (λ o. outcome_of (book (formulas.Tree found) (for_all ∷ [])) (by_body (book (formulas.Tree found) (for_all ∷ [])) (codes "Tax") (Some 0) o)) is_local_body
    ∙ ap (λ t. (book (formulas.Tree t) (record for_all { body = formulas.Tree first_kept } ∷ record for_one { body = formulas.Tree second_tree } ∷ []), Ok [])) taken_over
    ∙ ap (λ t. (book (formulas.Tree found_local) (record for_all { body = formulas.Tree t } ∷ record for_one { body = formulas.Tree second_tree } ∷ []), Ok [])) other_body_stays
    ∙ ap (λ t. (book (formulas.Tree found_local) (for_all ∷ record for_one { body = formulas.Tree t } ∷ []), Ok [])) local_body_bound

shown_local : shown_formula small (book (formulas.Tree found_local) (for_all ∷ for_one ∷ [])) (pos 1) (pos 1) (formulas.Tree found_local) ≡ codes "Tax"
unfolding caseless notations_of
shown_local = shows (book (formulas.Tree found_local) (for_all ∷ for_one ∷ [])) (pos 1) (pos 1) found_local (word (codes "Tax")) (Word (codes "Tax") ∷ []) (codes "Tax") (simp spelled-node) (simp yield-node) refl

told_local : step (book (formulas.Tree found_local) (for_all ∷ for_one ∷ [])) (codes "get_cell_formula\t0\t1\t1") ≡ (book (formulas.Tree found_local) (for_all ∷ for_one ∷ []), Ok (TextField (codes "=Tax") ∷ []))
unfolding step caseless commands core_step
told_local = ap (λ text. (book (formulas.Tree found_local) (for_all ∷ for_one ∷ []), Ok (TextField (equals ∷ text) ∷ []))) shown_local

-- ---- and gives it back

given_back : kept (english_function small) (scene_of (book (formulas.Tree found_local) (for_all ∷ for_one ∷ []))) (scene_of (book (formulas.Tree found_local) (for_all ∷ []))) same_keys (Some 1) found_local ≡ found
unfolding caseless notations_of
given_back = simp (spelled-node, bound-node)

abbrev first_kept_again : Bound
first_kept_again = kept (english_function small) (scene_of (book (formulas.Tree found_local) (for_all ∷ for_one ∷ []))) (scene_of (book (formulas.Tree found_local) (for_all ∷ []))) same_keys None (on_sheet first_cell)

body_stays_again : first_kept_again ≡ on_sheet first_cell
unfolding caseless notations_of
body_stays_again = simp (spelled-node, bound-node)

deleted : step (book (formulas.Tree found_local) (for_all ∷ for_one ∷ [])) (codes "delete_defined_name\tTAX\t0") ≡ (book (formulas.Tree found) (for_all ∷ []), Ok [])
unfolding step caseless commands core_step
deleted =
    ap (λ t. (book (formulas.Tree t) (record for_all { body = formulas.Tree first_kept_again } ∷ []), Ok [])) given_back
    ∙ ap (λ t. (book (formulas.Tree found) (record for_all { body = formulas.Tree t } ∷ []), Ok [])) body_stays_again

-- A word means the definition that comes, then the one for its own sheet as soon as there is one, and the one for all
-- sheets again where that goes; it is shown as the definition is spelled that it means.
local_definition : answers start
    (codes "update_cell_with_formula\t0\t1\t1\t=TAX" ∷ codes "new_defined_name\ttax\t-\tSheet1!$A$1" ∷ codes "get_cell_formula\t0\t1\t1" ∷ codes "new_defined_name\tTax\t0\tSheet1!$B$1" ∷ codes "get_cell_formula\t0\t1\t1"
    ∷ codes "delete_defined_name\tTAX\t0" ∷ codes "get_cell_formula\t0\t1\t1" ∷ [])
    ≡ codes "ok" ∷ codes "ok" ∷ codes "ok\t=tax" ∷ codes "ok" ∷ codes "ok\t=Tax" ∷ codes "ok" ∷ codes "ok\t=tax" ∷ []
local_definition =
    next _ _ _ _ _ _ written
    (next _ _ _ _ _ _ for_all_made (next _ _ _ _ _ _ told (next _ _ _ _ _ _ for_one_made (next _ _ _ _ _ _ told_local (next _ _ _ _ _ _ deleted (next _ _ _ _ _ _ told (done _)))))))
