-- Definitions that are made, refused, updated and listed, by example.
use Rattle.std.proofs.Common.{◌≡◌, cond, ℕ, suc, pos, List, [], ◌∷◌, ◌++◌, Bool, true, false, Option, Some, None, Ok, Err, codes, refl, arith, ap, ap₂, ◌∙◌, if◌then◌else◌}
use Rattle.std.specs.Fmt.{digits}
use Rattle.std.specs.FinMap as finite
use Rattle.std.specs.Prelude.{flat_map, is_none, not}
use Rattle.caseless.proofs.Computing.{caseless}
use Rattle.ucd_derived.proofs.Computing.{ucd_derived}
use Rattle.ic_laws.specs.Amount.{fraction_digits}
use Rattle.ic_laws.specs.Binding.{bound}
use Rattle.ic_laws.specs.Character.{equals}
use Rattle.ic_laws.specs.CoreBook.{Definition}
use Rattle.ic_laws.specs.CoreStep.{core_step, has_definition, scene_with_definition}
use Rattle.ic_laws.specs.FormulaReading.{Body, body_of, if_lambda, is_lambda_kind, shown_body}
use Rattle.ic_laws.specs.Keeping.{KeyChange, changed_key, kept, same_keys}
use Rattle.ic_laws.specs.Name.{is_identifier}
use Rattle.ic_laws.specs.NextToken.{bare_of, tokens_by}
use Rattle.ic_laws.specs.SheetText.{read_local}
use Rattle.ic_laws.specs.Notations.{english_function}
use Rattle.ic_laws.specs.Parse.{SpelledKind, binary, binder, expression, function_call, joined_by, lambda_call, lambda_parts, node, operand, postfix, prefix_sign, primary, reader, turns}
use Rattle.ic_laws.specs.ReadAs.{read_as}
use Rattle.ic_laws.specs.Refusal as refusals
use Rattle.ic_laws.specs.Split.{longest_split}
use Rattle.ic_laws.specs.Token.{Token, Close, FunHead, Num, Operator, Ref, Separator, Word}
use Rattle.ic_laws.specs.Tree.{Bound}
use Rattle.ic_laws.specs.declared.reference.Place.{Place}
use Rattle.ic_laws.specs.declared.reference.Place.TheVariants as places
use Rattle.ic_laws.specs.declared.reference.Position.TheVariants as at
use Rattle.ic_laws.specs.declared.reference.RefToken.{RefToken}
use Rattle.ic_laws.specs.declared.scene.Scene.{Scene}
use Rattle.ic_laws.specs.declared.tree.BinarySign.TheVariants as signs
use Rattle.ic_laws.specs.declared.tree.Formula.TheVariants as formulas
use Rattle.ic_laws.specs.declared.tree.NameKey.{NameKey}
use Rattle.ic_laws.specs.declared.tree.NameMention.TheVariants as names
use Rattle.ic_laws.specs.declared.tree.SheetMention.TheVariants as sheets
use Rattle.ic_laws.specs.declared.tree.Tree.TheOpen as one
use Rattle.ic_laws.specs.declared.tree.Tree.TheViews.{out-roll-Tree}
use Rattle.ic_laws.proofs.binding.Again.{bound_node, bound-node, spelled-node}
use Rattle.ic_laws.proofs.parsing.Nodes.{height-node, yield-node}
use Rattle.ic_refs.specs.Column.{column_letters}
use Rattle.ic_tree.specs.Notations.{notations_of}
use Rattle.ic_machine.specs.Book.{Book, Entry, Sheet, Stepped, core_of, empty_sheet, scene_in, unless_refused}
use Rattle.ic_machine.specs.Capture.{captured, captured_at, captured_body, captured_sites, has_sites}
use Rattle.ic_machine.specs.Command.{commands}
use Rattle.ic_machine.specs.Content.{formula_index}
use Rattle.ic_machine.specs.Refusal.{DefinitionSite, InvalidFormula, InvalidName, InvalidScope, NameExists, NameNotFound, OfCore, Site, WouldCapture}
use Rattle.ic_machine.specs.Reply.{NumberField, Reply, TextField}
use Rattle.ic_machine.specs.Step.{outcome_of}
use Rattle.ic_machine.specs.subjects.Definitions.{Update, delete_definition_step, keys_of_update, list_step, meets_other, new_definition_step, old_key, update_body, update_name_step, update_of, with_body}
use Rattle.ic_machine.proofs.as_core.CoreLemmas.{no_cells}
use Rattle.ic_machine.proofs.examples.CaptureExamples.{words-node}
use Rattle.ic_machine.proofs.examples.Formulas.{body_by, in_english, lambda_or_none, made_by, reads, reads_reference, reference, shows, small}
use Rattle.ic_machine.proofs.examples.Session.{answers, done, next, step}
use Rattle.ic_machine.proofs.examples.Small.{start}
use Rattle.ic_tree.proofs.machine.Session.{low}

-- the cell in this row and column, as it is written from the first cell
abbrev cell : ℕ → ℕ → Place
cell down right = places.Cell (record { row = at.Rel (pos down); column = at.Rel (pos right) })

abbrev on : Place → RefToken
on place = record { sheet = Some (codes "Sheet1"); place = place }

abbrev mention : Place → Bound
mention place = bound_node (one.Reference (sheets.Sheet 1) place)

abbrev body : Place → Body
body place = record { has_equals = false; tree = reference (on place) }

-- the definition tot and what it is updated to; and twice, LAMBDA(x,x*2)
abbrev tot : Definition
tot = record { name = codes "tot"; scope = None; has_equals = false; body = formulas.Tree (mention (cell 0 0)) }

abbrev total : Definition
total = record { name = codes "total"; scope = None; has_equals = false; body = formulas.Tree (mention (cell 1 1)) }

abbrev product_kind : SpelledKind
product_kind = one.Binary signs.Times (node (one.Word (codes "x"))) (node (one.Num (pos 2000000000)))

abbrev lambda_kind : SpelledKind
lambda_kind = one.Lambda (codes "x" ∷ []) (node product_kind)

abbrev lambda_tokens : List Token
lambda_tokens = FunHead 1 ∷ Word (codes "x") ∷ Separator ∷ Word (codes "x") ∷ Operator signs.Times ∷ Num (pos 2000000000) ∷ Close ∷ []

abbrev lambda_body : Bound
lambda_body =
    bound_node
    (one.Lambda (codes "x" ∷ []) (bound_node (one.Binary signs.Times (bound_node (one.Word (names.Var (codes "x")))) (bound_node (one.Num (pos 2000000000))))))

abbrev twice : Definition
twice = record { name = codes "twice"; scope = None; has_equals = true; body = formulas.Tree lambda_body }

abbrev first_sheet : Sheet
first_sheet = empty_sheet 1 (codes "Sheet1")

abbrev defined : List Definition → Book
defined definitions = record start { definitions = definitions }

-- ---- what the texts read as

is_body : body_of small (core_of start) (codes "Sheet1!A1") ≡ Some (body (cell 0 0))
unfolding notations_of caseless ucd_derived
is_body = refl

no_lambda : if_lambda (reference (on (cell 0 0))) ≡ None
no_lambda = ap (λ kind. if is_lambda_kind kind then Some (reference (on (cell 0 0))) else None) (out-roll-Tree _ _ (one.Reference (Some (codes "Sheet1")) (cell 0 0)))

after_equals : read_as (in_english (pos 1) (pos 1)) (codes "Sheet1!A1") ≡ Some (reference (on (cell 0 0)))
unfolding longest_split bare_of read_local tokens_by caseless ucd_derived
after_equals = reads_reference (in_english (pos 1) (pos 1)) (codes "Sheet1!A1") (on (cell 0 0)) refl refl

no_body : body_of small (core_of start) (codes "=Sheet1!A1") ≡ None
unfolding notations_of caseless ucd_derived
no_body = lambda_or_none start (codes "=Sheet1!A1") (reference (on (cell 0 0))) None refl after_equals no_lambda

lambda_high : (m b : ℕ) → reader (in_english (pos 1) (pos 1)) (suc (suc (suc m))) (suc b) 1 lambda_tokens ≡ Some (node lambda_kind, [])
unfolding caseless ucd_derived reader expression operand primary prefix_sign turns postfix binary joined_by function_call lambda_call lambda_parts binder
lambda_high m b =
    let x_kind : SpelledKind = one.Word (codes "x") in
    let two_kind : SpelledKind = one.Num (pos 2000000000) in
    let low_x = low (node x_kind) (suc (suc m)) (omega (arith, height-node x_kind)) in
    let low_two = low (node two_kind) (suc m) (omega (arith, height-node two_kind)) in
    let low_product = low (node product_kind) (suc (suc m)) (omega (arith, height-node product_kind, height-node x_kind, height-node two_kind)) in
    let low_lambda = low (node lambda_kind) (suc (suc (suc m))) (omega (arith, height-node lambda_kind, height-node product_kind, height-node x_kind, height-node two_kind)) in
    simp (low_x, low_two, low_product, low_lambda)

lambda_read : read_as (in_english (pos 1) (pos 1)) (codes "LAMBDA(x,x*2)") ≡ Some (node lambda_kind)
unfolding longest_split bare_of read_local tokens_by caseless ucd_derived
lambda_read = reads (in_english (pos 1) (pos 1)) (codes "LAMBDA(x,x*2)") lambda_tokens (Some (node lambda_kind, [])) refl (lambda_high 1021 127)

is_lambda : if_lambda (node lambda_kind) ≡ Some (node lambda_kind)
is_lambda = ap (λ kind. if is_lambda_kind kind then Some (node lambda_kind) else None) (out-roll-Tree _ _ lambda_kind)

is_lambda_body : body_of small (core_of (defined (tot ∷ []))) (codes "=LAMBDA(x,x*2)") ≡ Some (record { has_equals = true; tree = node lambda_kind })
unfolding notations_of caseless ucd_derived
is_lambda_body = lambda_or_none (defined (tot ∷ [])) (codes "=LAMBDA(x,x*2)") (node lambda_kind) (Some (node lambda_kind)) refl lambda_read is_lambda

plus_high : (m b : ℕ) → reader (in_english (pos 1) (pos 1)) (suc (suc m)) b 1 (Num (pos 1000000000) ∷ Operator signs.Plus ∷ []) ≡ None
unfolding reader expression operand primary prefix_sign turns postfix binary joined_by
plus_high m b = let low_one = low (node (one.Num (pos 1000000000))) (suc (suc m)) (omega (arith, height-node (one.Num (pos 1000000000)))) in simp low_one

plus_unread : read_as (in_english (pos 1) (pos 1)) (codes "1+") ≡ None
unfolding longest_split bare_of read_local tokens_by caseless ucd_derived
plus_unread = reads (in_english (pos 1) (pos 1)) (codes "1+") (Num (pos 1000000000) ∷ Operator signs.Plus ∷ []) None refl (plus_high 1022 128)

total_read : read_as (in_english (pos 1) (pos 1)) (codes "Sheet1!B2") ≡ Some (reference (on (cell 1 1)))
unfolding longest_split bare_of read_local tokens_by caseless ucd_derived
total_read = reads_reference (in_english (pos 1) (pos 1)) (codes "Sheet1!B2") (on (cell 1 1)) refl refl

-- ---- new definitions

refused_before : (lines texts : List (List ℕ)) → answers start lines ≡ texts
    → answers start (codes "new_defined_name\tA23\t-\tSheet1!A1" ∷ codes "new_defined_name\ttot\t7\tSheet1!A1" ∷ lines) ≡ codes "error\tInvalidName" ∷ codes "error\tInvalidScope" ∷ texts
unfolding answers step commands caseless ucd_derived core_step new_definition_step
refused_before lines texts h = ap (λ (t : List (List ℕ)). codes "error\tInvalidName" ∷ codes "error\tInvalidScope" ∷ t) h

no_reference : step start (codes "new_defined_name\ttot\t-\t=Sheet1!A1") ≡ (start, Err (OfCore refusals.InvalidNameFormula))
unfolding step commands caseless ucd_derived core_step new_definition_step
no_reference = ap (λ (o : Option Body). outcome_of start (made_by start (codes "tot") None o)) no_body

tot_bound : bound (english_function small) (scene_with_definition (core_of start) (codes "tot") None) None (reference (on (cell 0 0))) ≡ mention (cell 0 0)
unfolding caseless notations_of
tot_bound = simp bound-node

tot_made : step start (codes "new_defined_name\ttot\t-\tSheet1!A1") ≡ (defined (tot ∷ []), Ok [])
unfolding step commands caseless ucd_derived core_step new_definition_step
tot_made =
    ap (λ (o : Option Body). outcome_of start (made_by start (codes "tot") None o)) is_body
    ∙ ap (λ (t : Bound). (defined (record tot { body = formulas.Tree t } ∷ []), Ok [])) tot_bound

tot_again : step (defined (tot ∷ [])) (codes "new_defined_name\tTOT\t-\tSheet1!A1") ≡ (defined (tot ∷ []), Err NameExists)
unfolding step commands caseless ucd_derived core_step new_definition_step
tot_again = refl

abbrev lambda_tree : Bound
lambda_tree = bound (english_function small) (scene_with_definition (core_of (defined (tot ∷ []))) (codes "twice") None) None (node lambda_kind)

lambda_bound : lambda_tree ≡ lambda_body
unfolding caseless notations_of
lambda_bound = simp bound-node

tot_stays : kept (english_function small) (scene_in (defined (tot ∷ []))) (scene_in (defined (tot ∷ twice ∷ []))) same_keys None (mention (cell 0 0)) ≡ mention (cell 0 0)
unfolding caseless notations_of
tot_stays = simp (spelled-node, bound-node)

twice_made : step (defined (tot ∷ [])) (codes "new_defined_name\ttwice\t-\t=LAMBDA(x,x*2)") ≡ (defined (tot ∷ twice ∷ []), Ok [])
unfolding step commands caseless ucd_derived core_step new_definition_step
twice_made =
    ap (λ (o : Option Body). outcome_of (defined (tot ∷ [])) (made_by (defined (tot ∷ [])) (codes "twice") None o)) is_lambda_body
    ∙ ap (λ (t : Bound). (defined (record tot { body = formulas.Tree t } ∷ record twice { body = formulas.Tree lambda_tree } ∷ []), Ok [])) tot_stays
    ∙ ap (λ (t : Bound). (defined (tot ∷ record twice { body = formulas.Tree t } ∷ []), Ok [])) lambda_bound

nothing_deleted : step (defined (tot ∷ twice ∷ [])) (codes "delete_defined_name\tnope\t-") ≡ (defined (tot ∷ twice ∷ []), Err NameNotFound)
unfolding step commands caseless ucd_derived core_step delete_definition_step
nothing_deleted = refl

-- ---- the update

abbrev both : Book
both = defined (tot ∷ twice ∷ [])

abbrev to : List ℕ → Update
to text = update_of (codes "tot") None (codes "total") None text

abbrev key : List ℕ → NameKey
key name = record { name = name; scope = None }

-- what it leaves, by its body and by what it captures
abbrev updated : List ℕ → Option Body → List Site → Stepped Book
updated text o sites =
    unless_refused
    ((not (is_identifier (codes "total")), InvalidName) ∷ (false, InvalidScope) ∷ (false, InvalidScope) ∷ (meets_other both (to text), NameExists) ∷ (is_none o, InvalidFormula)
    ∷ (not (has_definition (core_of both) (codes "tot") None), NameNotFound) ∷ (has_sites sites, WouldCapture sites) ∷ [])
    (with_body both (to text) o) []

abbrev sites_by : List ℕ → Option Body → List Site
sites_by text o = captured_sites (keys_of_update both (to text)) (old_key both (to text)) both (with_body both (to text) o)

no_update_body : update_body small (core_of both) (codes "1+") ≡ None
unfolding notations_of
no_update_body = ap body_by plus_unread

not_updated : step both (codes "update_defined_name\ttot\t-\ttotal\t-\t1+") ≡ (both, Err InvalidFormula)
unfolding step commands caseless ucd_derived update_name_step
not_updated = ap (λ (o : Option Body). outcome_of both (updated (codes "1+") o (sites_by (codes "1+") o))) no_update_body

is_update_body : update_body small (core_of both) (codes "Sheet1!B2") ≡ Some (body (cell 1 1))
unfolding notations_of
is_update_body = ap body_by total_read

abbrev keys : KeyChange
keys = changed_key (key (codes "tot")) (key (codes "total"))

abbrev after : Scene
after = scene_in (defined (total ∷ twice ∷ []))

total_bound : bound (english_function small) after None (reference (on (cell 1 1))) ≡ mention (cell 1 1)
unfolding caseless notations_of
total_bound = simp bound-node

abbrev twice_kept : Bound
twice_kept = kept (english_function small) (scene_in both) after keys None lambda_body

twice_stays : twice_kept ≡ lambda_body
unfolding caseless notations_of
twice_stays = simp (spelled-node, bound-node)

-- no word of twice is captured
not_captured : captured keys lambda_body lambda_body ≡ false
not_captured = simp words-node

no_cell_sites : flat_map (λ (entry : Entry). captured_at keys first_sheet first_sheet entry.0 (formula_index entry.1)) (finite.entries first_sheet.grid.contents) ≡ []
no_cell_sites = ap (λ (es : List Entry). flat_map (λ (entry : Entry). captured_at keys first_sheet first_sheet entry.0 (formula_index entry.1)) es) no_cells

no_body_sites : captured_body keys (key (codes "tot")) (twice, record twice { body = formulas.Tree twice_kept }) ≡ []
unfolding caseless
no_body_sites =
    ap (λ (t : Bound). cond (captured keys lambda_body t) (DefinitionSite (key (codes "twice")) ∷ []) []) twice_stays
    ∙ ap (λ (b : Bool). cond b (DefinitionSite (key (codes "twice")) ∷ []) []) not_captured

no_sites : sites_by (codes "Sheet1!B2") (Some (body (cell 1 1))) ≡ []
unfolding caseless notations_of
no_sites = ap₂ (λ (cells bodies : List Site). (cells ++ []) ++ (bodies ++ [])) no_cell_sites no_body_sites

done_update : step both (codes "update_defined_name\ttot\t-\ttotal\t-\tSheet1!B2") ≡ (defined (total ∷ twice ∷ []), Ok [])
unfolding step commands caseless ucd_derived update_name_step
done_update =
    ap (λ (o : Option Body). outcome_of both (updated (codes "Sheet1!B2") o (sites_by (codes "Sheet1!B2") o))) is_update_body
    ∙ ap (λ (sites : List Site). outcome_of both (updated (codes "Sheet1!B2") (Some (body (cell 1 1))) sites)) no_sites
    ∙ ap (λ (t : Bound). (defined (record total { body = formulas.Tree t } ∷ record twice { body = formulas.Tree twice_kept } ∷ []), Ok [])) total_bound
    ∙ ap (λ (t : Bound). (defined (total ∷ record twice { body = formulas.Tree t } ∷ []), Ok [])) twice_stays

-- ---- the list

abbrev last : Book
last = defined (total ∷ twice ∷ [])

total_shown : shown_body small (core_of last) false (formulas.Tree (mention (cell 1 1))) ≡ codes "Sheet1!B2"
unfolding caseless ucd_derived notations_of digits column_letters
total_shown = shows last (pos 1) (pos 1) (mention (cell 1 1)) (reference (on (cell 1 1))) (Ref (on (cell 1 1)) ∷ []) (codes "Sheet1!B2") (simp spelled-node) (simp yield-node) refl

twice_shown : shown_body small (core_of last) true (formulas.Tree lambda_body) ≡ codes "=LAMBDA(x,x*2)"
unfolding caseless notations_of digits fraction_digits
twice_shown = ap (λ (text : List ℕ). equals ∷ text) (shows last (pos 1) (pos 1) lambda_body (node lambda_kind) lambda_tokens (codes "LAMBDA(x,x*2)") (simp spelled-node) (simp yield-node) refl)

abbrev listed : List ℕ → List ℕ → Book × Reply
listed first second = (last, Ok (TextField (codes "total") ∷ NumberField None ∷ TextField first ∷ TextField (codes "twice") ∷ NumberField None ∷ TextField second ∷ []))

told : step last (codes "get_defined_name_list") ≡ listed (codes "Sheet1!B2") (codes "=LAMBDA(x,x*2)")
unfolding step commands caseless core_step list_step
told = ap₂ listed total_shown twice_shown

-- A definition is refused for its name, its scope, its body and another one of that name; a reference has no equals sign.
-- An update is refused for its body; it keeps the place of the definition in the list.
updated_definition : answers start
    (codes "new_defined_name\tA23\t-\tSheet1!A1" ∷ codes "new_defined_name\ttot\t7\tSheet1!A1" ∷ codes "new_defined_name\ttot\t-\t=Sheet1!A1" ∷ codes "new_defined_name\ttot\t-\tSheet1!A1"
    ∷ codes "new_defined_name\tTOT\t-\tSheet1!A1" ∷ codes "new_defined_name\ttwice\t-\t=LAMBDA(x,x*2)" ∷ codes "delete_defined_name\tnope\t-" ∷ codes "update_defined_name\ttot\t-\ttotal\t-\t1+"
    ∷ codes "update_defined_name\ttot\t-\ttotal\t-\tSheet1!B2" ∷ codes "get_defined_name_list" ∷ [])
    ≡ codes "error\tInvalidName" ∷ codes "error\tInvalidScope" ∷ codes "error\tInvalidNameFormula" ∷ codes "ok"
    ∷ codes "error\tNameExists" ∷ codes "ok" ∷ codes "error\tNameNotFound" ∷ codes "error\tInvalidFormula"
    ∷ codes "ok" ∷ codes "ok\ttotal\t-\tSheet1!B2\ttwice\t-\t=LAMBDA(x,x*2)" ∷ []
updated_definition =
    refused_before _ _ (next _ _ _ _ _ _ no_reference (next _ _ _ _ _ _ tot_made (next _ _ _ _ _ _ tot_again (next _ _ _ _ _ _ twice_made
    (next _ _ _ _ _ _ nothing_deleted (next _ _ _ _ _ _ not_updated (next _ _ _ _ _ _ done_update (next _ _ _ _ _ _ told (done _)))))))))
