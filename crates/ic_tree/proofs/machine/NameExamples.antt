-- Definitions by example: what refuses them, and ids in use.
use Rattle.std.proofs.Common.{◌≡◌, ℕ, pos, List, [], ◌∷◌, None, Some, Ok, Err, false, codes, refl, ap, ◌∙◌, if◌then◌else◌}
use Rattle.std.specs.Fmt.{digits}
use Rattle.caseless.proofs.Computing.{caseless}
use Rattle.ucd_derived.proofs.Computing.{ucd_derived}
use Rattle.ic_laws.specs.Binding.{bound}
use Rattle.ic_laws.specs.Command.{commands}
use Rattle.ic_laws.specs.CoreBook.{CoreBook, Definition, Sheet, scene_of}
use Rattle.ic_laws.specs.CoreStep.{core_step, scene_with_definition}
use Rattle.ic_laws.specs.FormulaReading.{Body, body_of, if_lambda, is_lambda_kind}
use Rattle.ic_laws.specs.Keeping.{kept, same_keys}
use Rattle.ic_laws.specs.Lines.{outcome_of}
use Rattle.ic_laws.specs.NextToken.{bare_of, tokens_by}
use Rattle.ic_laws.specs.SheetText.{read_local}
use Rattle.ic_laws.specs.Notations.{english_function}
use Rattle.ic_laws.specs.ReadAs.{read_as}
use Rattle.ic_laws.specs.Refusal.{InvalidNameFormula}
use Rattle.ic_laws.specs.Split.{longest_split}
use Rattle.ic_laws.specs.Token.{Ref}
use Rattle.ic_laws.specs.Tree.{Bound}
use Rattle.ic_laws.specs.declared.reference.Place.{Place}
use Rattle.ic_laws.specs.declared.reference.Place.TheVariants as places
use Rattle.ic_laws.specs.declared.reference.Position.TheVariants as at
use Rattle.ic_laws.specs.declared.reference.RefToken.{RefToken}
use Rattle.ic_laws.specs.declared.tree.Formula.TheVariants as formulas
use Rattle.ic_laws.specs.declared.tree.SheetMention.{SheetMention}
use Rattle.ic_laws.specs.declared.tree.SheetMention.TheVariants as sheets
use Rattle.ic_laws.specs.declared.tree.Tree.TheOpen as one
use Rattle.ic_laws.specs.declared.tree.Tree.TheViews.{out-roll-Tree}
use Rattle.ic_laws.proofs.binding.Again.{bound_node, bound-node, spelled-node}
use Rattle.ic_tree.specs.Notations.{notations_of}
use Rattle.ic_tree.proofs.machine.Readings.{reads_reference, reference}
use Rattle.ic_tree.proofs.machine.Session.{answers, by_body, lambda_or_none, next, reads, step}
use Rattle.ic_tree.proofs.machine.Small.{in_english, small, start}

-- the first cell of a sheet of this name, as it is written from there
abbrev here : Place
here = places.Cell (record { row = at.Rel (pos 0); column = at.Rel (pos 0) })

abbrev on : List ℕ → RefToken
on sheet = record { sheet = Some sheet; place = here }

abbrev mention : SheetMention → Bound
mention sheet = bound_node (one.Reference sheet here)

abbrev body : List ℕ → Body
body sheet = record { has_equals = false; tree = reference (on sheet) }

abbrev defined : Definition
defined = record { name = codes "tot"; scope = None; has_equals = false; body = formulas.Tree (mention (sheets.Sheet 1)) }

abbrev with_tot : CoreBook
with_tot = record start { definitions = defined ∷ [] }

is_body : body_of small start (codes "Sheet1!A1") ≡ Some (body (codes "Sheet1"))
unfolding notations_of caseless ucd_derived
is_body = refl

no_lambda : if_lambda (reference (on (codes "Sheet1"))) ≡ None
no_lambda = ap (λ kind. if is_lambda_kind kind then Some (reference (on (codes "Sheet1"))) else None) (out-roll-Tree _ _ (one.Reference (Some (codes "Sheet1")) here))

after_equals : read_as (in_english (pos 1) (pos 1)) (codes "Sheet1!A1") ≡ Some (reference (on (codes "Sheet1")))
unfolding longest_split bare_of read_local tokens_by caseless ucd_derived
after_equals = reads (in_english (pos 1) (pos 1)) (codes "Sheet1!A1") (Ref (on (codes "Sheet1")) ∷ []) (reference (on (codes "Sheet1"))) refl (reads_reference (in_english (pos 1) (pos 1)) (on (codes "Sheet1")) refl)

no_body : body_of small start (codes "=Sheet1!A1") ≡ None
unfolding notations_of caseless ucd_derived
no_body = lambda_or_none start (codes "=Sheet1!A1") (reference (on (codes "Sheet1"))) None refl after_equals no_lambda

no_reference : step start (codes "new_defined_name\ttot\t-\t=Sheet1!A1") ≡ (start, Err InvalidNameFormula)
unfolding step caseless ucd_derived commands core_step
no_reference = ap (λ o. outcome_of start (by_body start (codes "tot") None o)) no_body

bound_tot : bound (english_function small) (scene_with_definition start (codes "tot") None) None (reference (on (codes "Sheet1"))) ≡ mention (sheets.Sheet 1)
unfolding caseless notations_of
bound_tot = simp bound-node

tot : step start (codes "new_defined_name\ttot\t-\tSheet1!A1") ≡ (with_tot, Ok [])
unfolding step caseless ucd_derived commands core_step
tot =
    ap (λ o. outcome_of start (by_body start (codes "tot") None o)) is_body
    ∙ ap (λ t. (record start { definitions = record defined { body = formulas.Tree t } ∷ [] }, Ok [])) bound_tot

refused_before : (lines texts : List (List ℕ)) → answers start lines ≡ texts
    → answers start (codes "new_defined_name\tA23\t-\tSheet1!A1" ∷ codes "new_defined_name\ttot\t7\tSheet1!A1" ∷ lines) ≡ codes "error\tInvalidName" ∷ codes "error\tInvalidScope" ∷ texts
unfolding answers step caseless ucd_derived commands core_step
refused_before lines texts h = ap (λ t. codes "error\tInvalidName" ∷ codes "error\tInvalidScope" ∷ t) h

refused_after : answers with_tot (codes "new_defined_name\tTOT\t-\tnothing" ∷ codes "delete_defined_name\tnope\t-" ∷ codes "delete_defined_name\ttot\t0" ∷ codes "delete_defined_name\ttot\t1" ∷ []) ≡ codes "error\tNameExists" ∷ codes "error\tNameNotFound" ∷ codes "error\tNameNotFound" ∷ codes "error\tInvalidSheet" ∷ []
unfolding answers step caseless ucd_derived commands core_step
refused_after = refl

-- a definition is refused for its name, its scope, another one of that name, and its body, in this order; a reference
-- has no equals sign
refused_definitions : answers start
    (codes "new_defined_name\tA23\t-\tSheet1!A1" ∷ codes "new_defined_name\ttot\t7\tSheet1!A1" ∷ codes "new_defined_name\ttot\t-\t=Sheet1!A1" ∷ codes "new_defined_name\ttot\t-\tSheet1!A1"
    ∷ codes "new_defined_name\tTOT\t-\tnothing" ∷ codes "delete_defined_name\tnope\t-" ∷ codes "delete_defined_name\ttot\t0" ∷ codes "delete_defined_name\ttot\t1" ∷ [])
    ≡ codes "error\tInvalidName" ∷ codes "error\tInvalidScope" ∷ codes "error\tInvalidNameFormula" ∷ codes "ok"
    ∷ codes "error\tNameExists" ∷ codes "error\tNameNotFound" ∷ codes "error\tNameNotFound" ∷ codes "error\tInvalidSheet" ∷ []
refused_definitions = refused_before _ _ (next _ _ _ _ _ _ no_reference (next _ _ _ _ _ _ tot refused_after))

-- ---- an id that a definition is local to is in use

abbrev local : Definition
local = record { name = codes "loc"; scope = Some 2; has_equals = false; body = formulas.Tree (mention (sheets.Sheet 1)) }

abbrev sheet : ℕ → List ℕ → Sheet
sheet id name = record { id = id; name = name; cells = [] }

abbrev two : List Definition → CoreBook
two definitions = record start { sheets = sheet 1 (codes "Sheet1") ∷ sheet 2 (codes "T") ∷ []; definitions = definitions }

abbrev left : CoreBook
left = record start { definitions = local ∷ [] }

is_local_body : body_of small (two []) (codes "Sheet1!A1") ≡ Some (body (codes "Sheet1"))
unfolding notations_of caseless ucd_derived
is_local_body = refl

bound_local : bound (english_function small) (scene_with_definition (two []) (codes "loc") (Some 2)) (Some 2) (reference (on (codes "Sheet1"))) ≡ mention (sheets.Sheet 1)
unfolding caseless notations_of
bound_local = simp bound-node

added : step start (codes "add_sheet\tT") ≡ (two [], Ok [])
unfolding step caseless commands core_step
added = refl

made_local : step (two []) (codes "new_defined_name\tloc\t1\tSheet1!A1") ≡ (two (local ∷ []), Ok [])
unfolding step caseless ucd_derived commands core_step
made_local =
    ap (λ o. outcome_of (two []) (by_body (two []) (codes "loc") (Some 1) o)) is_local_body
    ∙ ap (λ t. (two (record local { body = formulas.Tree t } ∷ []), Ok [])) bound_local

stays : kept (english_function small) (scene_of (two (local ∷ []))) (scene_of left) same_keys (Some 2) (mention (sheets.Sheet 1)) ≡ mention (sheets.Sheet 1)
unfolding caseless notations_of
stays = simp (spelled-node, bound-node)

deleted : step (two (local ∷ [])) (codes "delete_sheet\t1") ≡ (left, Ok [])
unfolding step caseless commands core_step
deleted = ap (λ t. (record start { definitions = record local { body = formulas.Tree t } ∷ [] }, Ok [])) stays

told : answers left (codes "get_new_sheet_id" ∷ codes "get_defined_name_list" ∷ []) ≡ codes "ok\t3" ∷ codes "ok" ∷ []
unfolding answers step caseless commands core_step digits
told = refl

-- a definition stays where its sheet is deleted: it is listed no more, and no new sheet gets the id
id_in_use : answers start
    (codes "add_sheet\tT" ∷ codes "new_defined_name\tloc\t1\tSheet1!A1" ∷ codes "delete_sheet\t1" ∷ codes "get_new_sheet_id" ∷ codes "get_defined_name_list" ∷ [])
    ≡ codes "ok" ∷ codes "ok" ∷ codes "ok" ∷ codes "ok\t3" ∷ codes "ok" ∷ []
id_in_use = next _ _ _ _ _ _ added (next _ _ _ _ _ _ made_local (next _ _ _ _ _ _ deleted told))
