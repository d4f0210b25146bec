-- Bodies of definitions by example: what a body mentions, and a sheet that is moved.
use Rattle.std.proofs.Common.{◌≡◌, ℕ, suc, pos, List, [], ◌∷◌, Option, None, Some, Ok, false, true, option_and_then, codes, refl, arith, ap, ◌∙◌, if◌then◌else◌}
use Rattle.std.specs.Fmt.{digits}
use Rattle.caseless.proofs.Computing.{caseless}
use Rattle.ucd_derived.proofs.Computing.{ucd_derived}
use Rattle.ic_laws.specs.Binding.{bound}
use Rattle.ic_laws.specs.Character.{equals}
use Rattle.ic_laws.specs.Command.{NumberField, TextField, commands}
use Rattle.ic_laws.specs.CoreBook.{CoreBook, Definition, Sheet, scene_of}
use Rattle.ic_laws.specs.CoreStep.{core_step, scene_with_definition}
use Rattle.ic_laws.specs.FormulaReading.{body_of, if_lambda, is_lambda_kind, shown_body}
use Rattle.ic_laws.specs.Keeping.{kept, same_keys}
use Rattle.ic_laws.specs.Lines.{outcome_of}
use Rattle.ic_laws.specs.NextToken.{bare_of, tokens_by, tokens_of}
use Rattle.ic_laws.specs.SheetText.{read_local}
use Rattle.ic_laws.specs.Notations.{english_function}
use Rattle.ic_laws.specs.Parse.{SpelledKind, binary, binder, expression, function_call, joined_by, lambda_call, lambda_parts, node, nothing_after, operand, parsed, postfix, prefix_sign, primary, reader, turns}
use Rattle.ic_laws.specs.ReadAs.{read_as}
use Rattle.ic_laws.specs.Split.{longest_split}
use Rattle.ic_laws.specs.Token.{Token, Close, FunHead, Operator, Ref, Separator, Word}
use Rattle.ic_laws.specs.Tree.{Bound}
use Rattle.ic_laws.specs.declared.reference.Place.{Place}
use Rattle.ic_laws.specs.declared.reference.Place.TheVariants as places
use Rattle.ic_laws.specs.declared.reference.Position.TheVariants as at
use Rattle.ic_laws.specs.declared.reference.RefToken.{RefToken}
use Rattle.ic_laws.specs.declared.tree.BinarySign.TheVariants as signs
use Rattle.ic_laws.specs.declared.tree.Formula.TheVariants as formulas
use Rattle.ic_laws.specs.declared.tree.NameMention.TheVariants as names
use Rattle.ic_laws.specs.declared.tree.SheetMention.TheVariants as sheets
use Rattle.ic_laws.specs.declared.tree.Tree.TheOpen as one
use Rattle.ic_laws.specs.declared.tree.Tree.TheViews.{out-roll-Tree}
use Rattle.ic_laws.proofs.binding.Again.{bound_node, bound-node, spelled-node}
use Rattle.ic_laws.proofs.parsing.Nodes.{height-node, yield-node}
use Rattle.ic_refs.specs.Column.{column_letters}
use Rattle.ic_tree.specs.Notations.{notations_of}
use Rattle.ic_tree.proofs.machine.Readings.{reference, word}
use Rattle.ic_tree.proofs.machine.Session.{answers, by_body, done, lambda_or_none, low, next, reads, shows, step}
use Rattle.ic_tree.proofs.machine.Small.{in_english, small}

-- the first cell, always the same one
abbrev first_cell : Place
first_cell = places.Cell (record { row = at.Abs (pos 1); column = at.Abs (pos 1) })

abbrev on : ℕ → Bound
on id = bound_node (one.Reference (sheets.Sheet id) first_cell)

-- LAMBDA(x,x*tax), as it is typed and with the definition for all sheets
abbrev product_kind : SpelledKind
product_kind = one.Binary signs.Times (word (codes "x")) (word (codes "tax"))

abbrev rate_kind : SpelledKind
rate_kind = one.Lambda (codes "x" ∷ []) (node product_kind)

abbrev rate_tokens : List Token
rate_tokens = FunHead 1 ∷ Word (codes "x") ∷ Separator ∷ Word (codes "x") ∷ Operator signs.Times ∷ Word (codes "tax") ∷ Close ∷ []

abbrev rate_body : Bound
rate_body =
    bound_node
    (one.Lambda (codes "x" ∷ []) (bound_node (one.Binary signs.Times (bound_node (one.Word (names.Var (codes "x")))) (bound_node (one.Word (names.Name (record { name = codes "tax"; scope = None })))))))

-- a definition for all sheets and one for the first sheet that is spelled otherwise; the body of the third mentions them
abbrev for_all : Definition
for_all = record { name = codes "tax"; scope = None; has_equals = false; body = formulas.Tree (on 2) }

abbrev for_one : Definition
for_one = record { name = codes "Tax"; scope = Some 1; has_equals = false; body = formulas.Tree (on 1) }

abbrev rate : Definition
rate = record { name = codes "rate"; scope = None; has_equals = true; body = formulas.Tree rate_body }

abbrev sheet : ℕ → List ℕ → Sheet
sheet id name = record { id = id; name = name; cells = [] }

abbrev book : List Sheet → List Definition → CoreBook
book sheets definitions = record { sheets = sheets; definitions = definitions; locale = codes "en"; language = codes "en" }

abbrev both : List Sheet
both = sheet 1 (codes "Sheet1") ∷ sheet 2 (codes "T") ∷ []

abbrev turned : List Sheet
turned = sheet 2 (codes "T") ∷ sheet 1 (codes "Sheet1") ∷ []

abbrev before : CoreBook
before = book both (for_all ∷ for_one ∷ [])

abbrev after : CoreBook
after = book both (for_all ∷ for_one ∷ rate ∷ [])

-- ---- the body reads

rate_high : (m b : ℕ) → reader (in_english (pos 1) (pos 1)) (suc (suc (suc m))) (suc b) 1 rate_tokens ≡ Some (node rate_kind, [])
unfolding caseless ucd_derived reader expression operand primary prefix_sign turns postfix binary joined_by function_call lambda_call lambda_parts binder
rate_high m b =
    let low_x = low (word (codes "x")) (suc (suc m)) (omega (arith, height-node (one.Word (codes "x")))) in
    let low_tax = low (word (codes "tax")) (suc m) (omega (arith, height-node (one.Word (codes "tax")))) in
    let low_product = low (node product_kind) (suc (suc m)) (omega (arith, height-node product_kind, height-node (one.Word (codes "x")), height-node (one.Word (codes "tax")))) in
    let low_rate = low (node rate_kind) (suc (suc (suc m))) (omega (arith, height-node rate_kind, height-node product_kind, height-node (one.Word (codes "x")), height-node (one.Word (codes "tax")))) in
    simp (low_x, low_tax, low_product, low_rate)

rate_falls : tokens_of (in_english (pos 1) (pos 1)) (codes "LAMBDA(x,x*tax)") ≡ Some rate_tokens
unfolding longest_split bare_of read_local tokens_by caseless ucd_derived
rate_falls = refl

rate_read : read_as (in_english (pos 1) (pos 1)) (codes "LAMBDA(x,x*tax)") ≡ Some (node rate_kind)
unfolding parsed
rate_read = reads (in_english (pos 1) (pos 1)) (codes "LAMBDA(x,x*tax)") rate_tokens (node rate_kind) rate_falls (ap (option_and_then (λ r. nothing_after r.0 r.1)) (rate_high 1021 127))

is_lambda : if_lambda (node rate_kind) ≡ Some (node rate_kind)
is_lambda = ap (λ kind. if is_lambda_kind kind then Some (node rate_kind) else None) (out-roll-Tree _ _ rate_kind)

is_body : body_of small before (codes "=LAMBDA(x,x*tax)") ≡ Some (record { has_equals = true; tree = node rate_kind })
unfolding notations_of caseless ucd_derived
is_body = lambda_or_none before (codes "=LAMBDA(x,x*tax)") (node rate_kind) (Some (node rate_kind)) refl rate_read is_lambda

-- ---- and mentions the definition for all sheets, not the one for the first sheet

abbrev rate_tree : Bound
rate_tree = bound (english_function small) (scene_with_definition before (codes "rate") None) None (node rate_kind)

rate_bound : rate_tree ≡ rate_body
unfolding caseless notations_of
rate_bound = simp bound-node

abbrev kept_in : Option ℕ → Bound → Bound
kept_in scope t = kept (english_function small) (scene_of before) (scene_of after) same_keys scope t

all_stays : kept_in None (on 2) ≡ on 2
unfolding caseless notations_of
all_stays = simp (spelled-node, bound-node)

one_stays : kept_in (Some 1) (on 1) ≡ on 1
unfolding caseless notations_of
one_stays = simp (spelled-node, bound-node)

rate_made : step before (codes "new_defined_name\trate\t-\t=LAMBDA(x,x*tax)") ≡ (after, Ok [])
unfolding step caseless ucd_derived commands core_step
rate_made =
    ap (λ o. outcome_of before (by_body before (codes "rate") None o)) is_body
    ∙ ap (λ t. (book both (record for_all { body = formulas.Tree t } ∷ record for_one { body = formulas.Tree (kept_in (Some 1) (on 1)) } ∷ record rate { body = formulas.Tree rate_tree } ∷ []), Ok [])) all_stays
    ∙ ap (λ t. (book both (for_all ∷ record for_one { body = formulas.Tree t } ∷ record rate { body = formulas.Tree rate_tree } ∷ []), Ok [])) one_stays
    ∙ ap (λ t. (book both (for_all ∷ for_one ∷ record rate { body = formulas.Tree t } ∷ []), Ok [])) rate_bound

-- ---- the second sheet is put before the first

moved : step after (codes "move_sheet\t1\t0") ≡ (book turned (for_all ∷ for_one ∷ rate ∷ []), Ok [])
unfolding step caseless commands core_step
moved = refl

abbrev there : CoreBook
there = book turned (for_all ∷ for_one ∷ rate ∷ [])

abbrev written : List ℕ → RefToken
written name = record { sheet = Some name; place = first_cell }

all_shown : shown_body small there false (formulas.Tree (on 2)) ≡ codes "T!$A$1"
unfolding caseless ucd_derived notations_of digits column_letters
all_shown = shows there (pos 1) (pos 1) (on 2) (reference (written (codes "T"))) (Ref (written (codes "T")) ∷ []) (codes "T!$A$1") (simp spelled-node) (simp yield-node) refl

one_shown : shown_body small there false (formulas.Tree (on 1)) ≡ codes "Sheet1!$A$1"
unfolding caseless ucd_derived notations_of digits column_letters
one_shown = shows there (pos 1) (pos 1) (on 1) (reference (written (codes "Sheet1"))) (Ref (written (codes "Sheet1")) ∷ []) (codes "Sheet1!$A$1") (simp spelled-node) (simp yield-node) refl

rate_shown : shown_body small there true (formulas.Tree rate_body) ≡ codes "=LAMBDA(x,x*tax)"
unfolding caseless notations_of
rate_shown = ap (λ text. equals ∷ text) (shows there (pos 1) (pos 1) rate_body (node rate_kind) rate_tokens (codes "LAMBDA(x,x*tax)") (simp spelled-node) (simp yield-node) refl)

listed : step there (codes "get_defined_name_list")
    ≡ (there, Ok (TextField (codes "tax") ∷ NumberField None ∷ TextField (codes "T!$A$1") ∷ TextField (codes "Tax") ∷ NumberField (Some 1) ∷ TextField (codes "Sheet1!$A$1") ∷ TextField (codes "rate") ∷ NumberField None ∷ TextField (codes "=LAMBDA(x,x*tax)") ∷ []))
unfolding step caseless commands core_step
listed =
    let first = shown_body small there false (formulas.Tree (on 2)) in
    let second = shown_body small there false (formulas.Tree (on 1)) in
    ap (λ text. (there, Ok (TextField (codes "tax") ∷ NumberField None ∷ TextField text ∷ TextField (codes "Tax") ∷ NumberField (Some 1) ∷ TextField second ∷ TextField (codes "rate") ∷ NumberField None ∷ TextField (shown_body small there true (formulas.Tree rate_body)) ∷ []))) all_shown
    ∙ ap (λ text. (there, Ok (TextField (codes "tax") ∷ NumberField None ∷ TextField (codes "T!$A$1") ∷ TextField (codes "Tax") ∷ NumberField (Some 1) ∷ TextField text ∷ TextField (codes "rate") ∷ NumberField None ∷ TextField (shown_body small there true (formulas.Tree rate_body)) ∷ []))) one_shown
    ∙ ap (λ text. (there, Ok (TextField (codes "tax") ∷ NumberField None ∷ TextField (codes "T!$A$1") ∷ TextField (codes "Tax") ∷ NumberField (Some 1) ∷ TextField (codes "Sheet1!$A$1") ∷ TextField (codes "rate") ∷ NumberField None ∷ TextField text ∷ []))) rate_shown

-- A body for all sheets mentions the definition for all sheets, whichever sheet comes first. A sheet that is moved
-- changes no formula; definitions that are local to it tell its new place.
moved_sheet : answers before (codes "new_defined_name\trate\t-\t=LAMBDA(x,x*tax)" ∷ codes "move_sheet\t1\t0" ∷ codes "get_defined_name_list" ∷ [])
    ≡ codes "ok" ∷ codes "ok" ∷ codes "ok\ttax\t-\tT!$A$1\tTax\t1\tSheet1!$A$1\trate\t-\t=LAMBDA(x,x*tax)" ∷ []
unfolding digits
moved_sheet = next _ _ _ _ _ _ rate_made (next _ _ _ _ _ _ moved (next _ _ _ _ _ _ listed (done _)))
