-- English beside the notation in force, by example: bodies of definitions are read in it too, formulas of cells aren't.
use Rattle.std.proofs.Common.{◌≡◌, ℕ, suc, pos, List, [], ◌∷◌, None, Some, Ok, true, option_and_then, codes, refl, arith, ap, ◌∙◌, if◌then◌else◌}
use Rattle.std.specs.Fmt.{digits}
use Rattle.caseless.proofs.Computing.{caseless}
use Rattle.ucd_derived.proofs.Computing.{ucd_derived}
use Rattle.ic_laws.specs.Amount.{fraction_digits}
use Rattle.ic_laws.specs.Binding.{bound}
use Rattle.ic_laws.specs.Character.{equals}
use Rattle.ic_laws.specs.Command.{NumberField, TextField, commands}
use Rattle.ic_laws.specs.CoreBook.{CoreBook, Definition}
use Rattle.ic_laws.specs.CoreStep.{core_step, scene_with_definition}
use Rattle.ic_laws.specs.FormulaReading.{body_of, cell_formula, if_lambda, is_lambda_kind, shown_body}
use Rattle.ic_laws.specs.Lines.{outcome_of}
use Rattle.ic_laws.specs.NextToken.{bare_of, tokens_by, tokens_of}
use Rattle.ic_laws.specs.SheetText.{read_local}
use Rattle.ic_laws.specs.Notations.{english_function}
use Rattle.ic_laws.specs.Parse.{SpelledKind, binary, binder, expression, function_call, joined_by, lambda_call, lambda_parts, node, nothing_after, operand, parsed, postfix, prefix_sign, primary, reader, turns}
use Rattle.ic_laws.specs.ReadAs.{read_as}
use Rattle.ic_laws.specs.Split.{longest_split}
use Rattle.ic_laws.specs.Token.{Token, Close, FunHead, Num, Operator, Separator, Word}
use Rattle.ic_laws.specs.Tree.{Bound}
use Rattle.ic_laws.specs.declared.tree.BinarySign.TheVariants as signs
use Rattle.ic_laws.specs.declared.tree.Formula.TheVariants as formulas
use Rattle.ic_laws.specs.declared.tree.NameMention.TheVariants as names
use Rattle.ic_laws.specs.declared.tree.Tree.TheOpen as one
use Rattle.ic_laws.specs.declared.tree.Tree.TheViews.{out-roll-Tree}
use Rattle.ic_laws.proofs.binding.Again.{bound_node, bound-node, spelled-node}
use Rattle.ic_laws.proofs.parsing.Nodes.{height-node, yield-node}
use Rattle.ic_tree.specs.Notations.{notations_of}
use Rattle.ic_tree.proofs.machine.Readings.{word}
use Rattle.ic_tree.proofs.machine.Session.{answers, by_body, done, english_lambda, kept_raw, low, next, reads, shows, step}
use Rattle.ic_tree.proofs.machine.Small.{in_english, in_spanish, small, start}

abbrev spanish : CoreBook
spanish = record start { locale = codes "es"; language = codes "es" }

-- ---- a cell

abbrev in_cell : CoreBook
in_cell = record spanish { sheets = record { id = 1; name = codes "Sheet1"; cells = ((pos 1, pos 1), formulas.Raw (codes "SUM(A1,B1)")) ∷ [] } ∷ [] }

unread : (read_as (in_spanish (pos 1) (pos 1)) (codes "SUM(A1,B1)") ≡ None) × (read_as (in_spanish (pos 1) (pos 1)) (codes "SUM(A1,B1))") ≡ None)
unfolding longest_split bare_of read_local tokens_by caseless ucd_derived
unread = (refl, refl)

formula : cell_formula small spanish 1 (pos 1) (pos 1) (codes "SUM(A1,B1)") ≡ formulas.Raw (codes "SUM(A1,B1)")
unfolding notations_of
formula = kept_raw spanish 1 (pos 1) (pos 1) (codes "SUM(A1,B1)") unread.0 unread.1

written : step spanish (codes "update_cell_with_formula\t0\t1\t1\t=SUM(A1,B1)") ≡ (in_cell, Ok [])
unfolding step caseless commands core_step
written = ap (λ f. (record in_cell { sheets = record { id = 1; name = codes "Sheet1"; cells = ((pos 1, pos 1), f) ∷ [] } ∷ [] }, Ok [])) formula

told : answers in_cell (codes "get_cell_formula\t0\t1\t1" ∷ []) ≡ codes "ok\t=SUM(A1,B1)" ∷ []
unfolding answers step caseless commands core_step
told = refl

-- in a cell the text stays as it was typed
cell_in_english : answers spanish (codes "update_cell_with_formula\t0\t1\t1\t=SUM(A1,B1)" ∷ codes "get_cell_formula\t0\t1\t1" ∷ []) ≡ codes "ok" ∷ codes "ok\t=SUM(A1,B1)" ∷ []
cell_in_english = next _ _ _ _ _ _ written told

-- ---- a body

abbrev product_kind : SpelledKind
product_kind = one.Binary signs.Times (word (codes "x")) (node (one.Num (pos 2000000000)))

abbrev twice_kind : SpelledKind
twice_kind = one.Lambda (codes "x" ∷ []) (node product_kind)

abbrev twice_tokens : List Token
twice_tokens = FunHead 1 ∷ Word (codes "x") ∷ Separator ∷ Word (codes "x") ∷ Operator signs.Times ∷ Num (pos 2000000000) ∷ Close ∷ []

abbrev twice_body : Bound
twice_body = bound_node (one.Lambda (codes "x" ∷ []) (bound_node (one.Binary signs.Times (bound_node (one.Word (names.Var (codes "x")))) (bound_node (one.Num (pos 2000000000))))))

abbrev twice : Definition
twice = record { name = codes "twice"; scope = None; has_equals = true; body = formulas.Tree twice_body }

abbrev with_twice : CoreBook
with_twice = record spanish { definitions = twice ∷ [] }

twice_high : (m b : ℕ) → reader (in_english (pos 1) (pos 1)) (suc (suc (suc m))) (suc b) 1 twice_tokens ≡ Some (node twice_kind, [])
unfolding caseless ucd_derived reader expression operand primary prefix_sign turns postfix binary joined_by function_call lambda_call lambda_parts binder
twice_high m b =
    let low_x = low (word (codes "x")) (suc (suc m)) (omega (arith, height-node (one.Word (codes "x")))) in
    let low_two = low (node (one.Num (pos 2000000000))) (suc m) (omega (arith, height-node (one.Num (pos 2000000000)))) in
    let low_product = low (node product_kind) (suc (suc m)) (omega (arith, height-node product_kind, height-node (one.Word (codes "x")), height-node (one.Num (pos 2000000000)))) in
    let low_twice = low (node twice_kind) (suc (suc (suc m))) (omega (arith, height-node twice_kind, height-node product_kind, height-node (one.Word (codes "x")), height-node (one.Num (pos 2000000000)))) in
    simp (low_x, low_two, low_product, low_twice)

twice_falls : tokens_of (in_english (pos 1) (pos 1)) (codes "LAMBDA(x,x*2)") ≡ Some twice_tokens
unfolding longest_split bare_of read_local tokens_by caseless ucd_derived
twice_falls = refl

twice_read : read_as (in_english (pos 1) (pos 1)) (codes "LAMBDA(x,x*2)") ≡ Some (node twice_kind)
unfolding parsed
twice_read = reads (in_english (pos 1) (pos 1)) (codes "LAMBDA(x,x*2)") twice_tokens (node twice_kind) twice_falls (ap (option_and_then (λ r. nothing_after r.0 r.1)) (twice_high 1021 127))

twice_unread : read_as (in_spanish (pos 1) (pos 1)) (codes "LAMBDA(x,x*2)") ≡ None
unfolding longest_split bare_of read_local tokens_by caseless ucd_derived
twice_unread = refl

is_lambda : if_lambda (node twice_kind) ≡ Some (node twice_kind)
is_lambda = ap (λ kind. if is_lambda_kind kind then Some (node twice_kind) else None) (out-roll-Tree _ _ twice_kind)

is_body : body_of small spanish (codes "=LAMBDA(x,x*2)") ≡ Some (record { has_equals = true; tree = node twice_kind })
unfolding notations_of caseless ucd_derived
is_body = english_lambda spanish (codes "=LAMBDA(x,x*2)") (node twice_kind) refl twice_unread twice_read is_lambda

twice_bound : bound (english_function small) (scene_with_definition spanish (codes "twice") None) None (node twice_kind) ≡ twice_body
unfolding caseless notations_of
twice_bound = simp bound-node

twice_made : step spanish (codes "new_defined_name\ttwice\t-\t=LAMBDA(x,x*2)") ≡ (with_twice, Ok [])
unfolding step caseless ucd_derived commands core_step
twice_made =
    ap (λ o. outcome_of spanish (by_body spanish (codes "twice") None o)) is_body
    ∙ ap (λ t. (record spanish { definitions = record twice { body = formulas.Tree t } ∷ [] }, Ok [])) twice_bound

twice_shown : shown_body small with_twice true (formulas.Tree twice_body) ≡ codes "=LAMBDA(x;x*2)"
unfolding caseless notations_of digits fraction_digits
twice_shown = ap (λ text. equals ∷ text) (shows with_twice (pos 1) (pos 1) twice_body (node twice_kind) twice_tokens (codes "LAMBDA(x;x*2)") (simp spelled-node) (simp yield-node) refl)

twice_listed : step with_twice (codes "get_defined_name_list") ≡ (with_twice, Ok (TextField (codes "twice") ∷ NumberField None ∷ TextField (codes "=LAMBDA(x;x*2)") ∷ []))
unfolding step caseless commands core_step
twice_listed = ap (λ text. (with_twice, Ok (TextField (codes "twice") ∷ NumberField None ∷ TextField text ∷ []))) twice_shown

-- a body that doesn't read as it stands is read in English, and shown in the notation in force
body_in_english : answers spanish (codes "new_defined_name\ttwice\t-\t=LAMBDA(x,x*2)" ∷ codes "get_defined_name_list" ∷ []) ≡ codes "ok" ∷ codes "ok\ttwice\t-\t=LAMBDA(x;x*2)" ∷ []
body_in_english = next _ _ _ _ _ _ twice_made (next _ _ _ _ _ _ twice_listed (done _))
