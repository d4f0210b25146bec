-- An update that would capture a word of a formula, by example: it is told, and refused.
use Rattle.std.proofs.Common.{◌≡◌, ℕ, suc, pos, List, [], ◌∷◌, Bool, true, false, Option, None, Some, Ok, Err, codes, refl, arith, ap, ◌∙◌, if◌then◌else◌}
use Rattle.std.specs.FinMap as finite
use Rattle.caseless.proofs.Computing.{caseless}
use Rattle.ucd_derived.proofs.Computing.{ucd_derived}
use Rattle.ic_laws.specs.Binding.{bound}
use Rattle.ic_laws.specs.CoreBook.{Definition}
use Rattle.ic_laws.specs.CoreStep.{core_step, scene_with_definition}
use Rattle.ic_laws.specs.FormulaReading.{Body, body_of, cell_formula}
use Rattle.ic_laws.specs.NextToken.{bare_of, tokens_by}
use Rattle.ic_laws.specs.SheetText.{read_local}
use Rattle.ic_laws.specs.Notations.{english_function}
use Rattle.ic_laws.specs.Parse.{SpelledKind, binary, binder, expression, function_call, joined_by, let_call, let_parts, node, operand, pair_of, postfix, prefix_sign, primary, reader, turns}
use Rattle.ic_laws.specs.ReadAs.{read_as}
use Rattle.ic_laws.specs.Split.{longest_split}
use Rattle.ic_laws.specs.Token.{Token, Close, FunHead, Num, Operator, Separator, Word}
use Rattle.ic_laws.specs.Tree.{Bound}
use Rattle.ic_laws.specs.declared.reference.Place.TheVariants as places
use Rattle.ic_laws.specs.declared.reference.Position.TheVariants as at
use Rattle.ic_laws.specs.declared.reference.RefToken.{RefToken}
use Rattle.ic_laws.specs.declared.tree.BinarySign.TheVariants as signs
use Rattle.ic_laws.specs.declared.tree.Formula.{Formula}
use Rattle.ic_laws.specs.declared.tree.Formula.TheVariants as formulas
use Rattle.ic_laws.specs.declared.tree.NameMention.TheVariants as names
use Rattle.ic_laws.specs.declared.tree.SheetMention.TheVariants as sheets
use Rattle.ic_laws.specs.declared.tree.Tree.TheOpen as one
use Rattle.ic_laws.proofs.binding.Again.{bound_node, bound-node}
use Rattle.ic_laws.proofs.parsing.Nodes.{height-node}
use Rattle.ic_tree.specs.Dynamic.{dynamic_with}
use Rattle.ic_tree.specs.Notations.{notations_of}
use Rattle.ic_cells.specs.Style.{default_style, is_style}
use Rattle.ic_cells.specs.declared.cell.ArrayKind.TheVariants as kinds
use Rattle.ic_cells.specs.declared.value.FormulaValue.TheVariants as values
use Rattle.ic_input.specs.Typed.{formula_of}
use Rattle.ic_machine.specs.Book.{Book, core_of, scene_in}
use Rattle.ic_machine.specs.Command.{commands}
use Rattle.ic_machine.specs.Content.{AnchorContent, Content, FormulaContent}
use Rattle.ic_machine.specs.InForce.{formula_typed}
use Rattle.ic_machine.specs.Refusal.{CellSite, WouldCapture}
use Rattle.ic_machine.specs.Reply.{BoolField, Reply}
use Rattle.ic_machine.specs.Step.{outcome_of}
use Rattle.ic_machine.specs.subjects.Definitions.{new_definition_step, update_body}
use Rattle.ic_machine.specs.subjects.Writing.{formula_content}
use Rattle.ic_machine.proofs.examples.CaptureExamples.{book, formula, key, place, refused_by_y, would_by_y, would_by_z}
use Rattle.ic_machine.proofs.examples.Formulas.{body_by, dynamic-node, formula_is, in_english, made_by, reads, reads_reference, reference, small}
use Rattle.ic_machine.proofs.examples.OneSheet.{formula_done, one_cell, put_first, sheet_with, with_first}
use Rattle.ic_machine.proofs.examples.Session.{answers, done, next, step}
use Rattle.ic_machine.proofs.examples.Small.{start, tables}
use Rattle.ic_tree.proofs.machine.Session.{low}

-- the first cell of the sheet, always the same one
abbrev first : RefToken
first = record { sheet = Some (codes "Sheet1"); place = places.Cell (record { row = at.Abs (pos 1); column = at.Abs (pos 1) }) }

abbrev own_body : Bound
own_body = bound_node (one.Reference (sheets.Sheet 1) first.place)

abbrev own : Formula
own = formulas.Tree own_body

abbrev body : Body
body = record { has_equals = false; tree = reference first }

abbrev definition : Definition
definition = record { name = codes "x"; scope = None; has_equals = false; body = own }

abbrev defined : Definition → Book
defined d = record start { definitions = d ∷ [] }

-- ---- the definition

is_body : body_of small (core_of start) (codes "Sheet1!$A$1") ≡ Some body
unfolding notations_of caseless ucd_derived
is_body = refl

own_bound : bound (english_function small) (scene_with_definition (core_of start) (codes "x") None) None (reference first) ≡ own_body
unfolding caseless notations_of
own_bound = simp bound-node

made : step start (codes "new_defined_name\tx\t-\tSheet1!$A$1") ≡ (defined definition, Ok [])
unfolding step commands caseless ucd_derived core_step new_definition_step
made =
    ap (λ (o : Option Body). outcome_of start (made_by start (codes "x") None o)) is_body
    ∙ ap (λ (t : Bound). let left : Book × Reply = (defined (record definition { body = formulas.Tree t }), Ok []) in left) own_bound

-- ---- the questions and the update

reads_first : read_as (in_english (pos 1) (pos 1)) (codes "Sheet1!$A$1") ≡ Some (reference first)
unfolding longest_split bare_of read_local tokens_by caseless ucd_derived
reads_first = reads_reference (in_english (pos 1) (pos 1)) (codes "Sheet1!$A$1") first refl refl

is_update_body : update_body small (core_of (book own)) (codes "Sheet1!$A$1") ≡ Some body
unfolding notations_of
is_update_body = ap body_by reads_first

told_y : step (book own) (codes "would_capture\tx\t-\ty\t-\tSheet1!$A$1") ≡ (book own, Ok (BoolField true ∷ []))
unfolding step commands
told_y = ap (outcome_of (book own)) (would_by_y own (codes "Sheet1!$A$1") body is_update_body)

told_z : step (book own) (codes "would_capture\tx\t-\tz\t-\tSheet1!$A$1") ≡ (book own, Ok (BoolField false ∷ []))
unfolding step commands
told_z = ap (outcome_of (book own)) (would_by_z own (codes "Sheet1!$A$1") body is_update_body)

refused : step (book own) (codes "update_defined_name\tx\t-\ty\t-\tSheet1!$A$1") ≡ (book own, Err (WouldCapture (CellSite 1 place ∷ [])))
unfolding step commands
refused = ap (outcome_of (book own)) (refused_by_y own (codes "Sheet1!$A$1") body is_update_body)

-- ---- LET(y,1,x+y) in the first cell

abbrev number_kind : SpelledKind
number_kind = one.Num (pos 1000000000)

abbrev x_kind : SpelledKind
x_kind = one.Word (codes "x")

abbrev y_kind : SpelledKind
y_kind = one.Word (codes "y")

abbrev sum_kind : SpelledKind
sum_kind = one.Binary signs.Plus (node x_kind) (node y_kind)

abbrev let_kind : SpelledKind
let_kind = one.Let (pair_of (codes "y") (node number_kind) ∷ []) (node sum_kind)

abbrev let_tokens : List Token
let_tokens =
    FunHead 0 ∷ Word (codes "y") ∷ Separator ∷ Num (pos 1000000000) ∷ Separator ∷ Word (codes "x") ∷ Operator signs.Plus ∷ Word (codes "y") ∷ Close ∷ []

let_high : (m b : ℕ) → reader (in_english (pos 1) (pos 1)) (suc (suc (suc m))) (suc b) 1 let_tokens ≡ Some (node let_kind, [])
unfolding caseless ucd_derived reader expression operand primary prefix_sign turns postfix binary joined_by function_call let_call let_parts binder
let_high m b =
    let low_number = low (node number_kind) (suc (suc m)) (omega (arith, height-node number_kind)) in
    let low_x = low (node x_kind) (suc (suc m)) (omega (arith, height-node x_kind)) in
    let low_y = low (node y_kind) (suc m) (omega (arith, height-node y_kind)) in
    let low_sum = low (node sum_kind) (suc (suc m)) (omega (arith, height-node sum_kind, height-node x_kind, height-node y_kind)) in
    let low_let = low (node let_kind) (suc (suc (suc m))) (omega (arith, height-node let_kind, height-node number_kind, height-node sum_kind, height-node x_kind, height-node y_kind)) in
    simp (low_number, low_x, low_y, low_sum, low_let)

let_read : read_as (in_english (pos 1) (pos 1)) (codes "LET(y,1,x+y)") ≡ Some (node let_kind)
unfolding longest_split bare_of read_local tokens_by caseless ucd_derived
let_read = reads (in_english (pos 1) (pos 1)) (codes "LET(y,1,x+y)") let_tokens (Some (node let_kind, [])) refl (let_high 1021 127)

abbrev let_bound : Bound
let_bound = formula (names.Name (key (codes "x")))

let_binds : bound (english_function small) (scene_in (defined definition)) (Some 1) (node let_kind) ≡ let_bound
unfolding caseless notations_of
let_binds = simp bound-node

abbrev text_formula : Formula
text_formula = cell_formula small (core_of (defined definition)) 1 (pos 1) (pos 1) (codes "LET(y,1,x+y)")

text_reads : text_formula ≡ formulas.Tree let_bound
unfolding notations_of
text_reads = formula_is (defined definition) 1 (pos 1) (pos 1) (codes "LET(y,1,x+y)") (node let_kind) let_bound let_read let_binds

one_value : dynamic_with tables.kinds let_bound ≡ false
one_value = simp dynamic-node

let_typed : formula_typed (defined definition) (codes "=LET(y,1,x+y)") ≡ Some (codes "LET(y,1,x+y)")
unfolding formula_of
let_typed = refl

abbrev after_formula : Formula → Content → Book × Reply
after_formula f content = (with_first (defined definition) [] (sheet_with (f ∷ []) (one_cell place content)) (default_style ∷ []), Ok [])

written : step (defined definition) (codes "update_cell_with_formula\t0\t1\t1\t=LET(y,1,x+y)") ≡ (book own, Ok [])
unfolding step commands is_style notations_of
written =
    ap (outcome_of (defined definition))
    (formula_done (defined definition) [] (sheet_with [] finite.empty) (default_style ∷ []) place (codes "=LET(y,1,x+y)") (codes "LET(y,1,x+y)") 0 (one_cell place (formula_content tables.kinds text_formula 0 0)) let_typed
    (simp (finite.get-empty)) (simp (finite.get-empty)) (put_first place (formula_content tables.kinds text_formula 0 0)))
    ∙ ap (λ (f : Formula). after_formula f (formula_content tables.kinds f 0 0)) text_reads
    ∙ ap (λ (b : Bool). after_formula (formulas.Tree let_bound) (if b then AnchorContent 0 (pos 1, pos 1) kinds.Dynamic values.Unevaluated 0 else FormulaContent 0 values.Unevaluated 0)) one_value

-- A definition that is mentioned under a variable can't get the variable's name: whether it could is told, and the update
-- is refused. Another name does.
capturing_update : answers start
    (codes "new_defined_name\tx\t-\tSheet1!$A$1" ∷ codes "update_cell_with_formula\t0\t1\t1\t=LET(y,1,x+y)" ∷ codes "would_capture\tx\t-\ty\t-\tSheet1!$A$1"
    ∷ codes "would_capture\tx\t-\tz\t-\tSheet1!$A$1" ∷ codes "update_defined_name\tx\t-\ty\t-\tSheet1!$A$1" ∷ [])
    ≡ codes "ok" ∷ codes "ok" ∷ codes "ok\ttrue" ∷ codes "ok\tfalse" ∷ codes "error\tWouldCapture" ∷ []
capturing_update = next _ _ _ _ _ _ made (next _ _ _ _ _ _ written (next _ _ _ _ _ _ told_y (next _ _ _ _ _ _ told_z (next _ _ _ _ _ _ refused (done _)))))
