-- A formula that mentions a sheet, by example: the sheet is renamed.
use Rattle.std.proofs.Common.{◌≡◌, ℕ, suc, pos, List, [], ◌∷◌, Some, Ok, Err, option_and_then, codes, refl, arith, ap}
use Rattle.std.specs.Fmt.{digits}
use Rattle.caseless.proofs.Computing.{caseless}
use Rattle.ucd_derived.proofs.Computing.{ucd_derived}
use Rattle.ic_laws.specs.Amount.{fraction_digits}
use Rattle.ic_laws.specs.Binding.{bound}
use Rattle.ic_laws.specs.Character.{equals}
use Rattle.ic_laws.specs.Command.{TextField, commands}
use Rattle.ic_laws.specs.CoreBook.{CoreBook, scene_of}
use Rattle.ic_laws.specs.CoreStep.{core_step}
use Rattle.ic_laws.specs.FormulaReading.{cell_formula, shown_formula}
use Rattle.ic_laws.specs.Keeping.{kept, same_keys}
use Rattle.ic_laws.specs.NextToken.{bare_of, tokens_by, tokens_of}
use Rattle.ic_laws.specs.SheetText.{read_local}
use Rattle.ic_laws.specs.Notations.{english_function}
use Rattle.ic_laws.specs.Parse.{binary, expression, joined_by, node, nothing_after, operand, parsed, postfix, prefix_sign, primary, reader, turns}
use Rattle.ic_laws.specs.ReadAs.{read_as}
use Rattle.ic_laws.specs.Refusal.{SheetNotFound}
use Rattle.ic_laws.specs.Split.{longest_split}
use Rattle.ic_laws.specs.Token.{Token, Num, Operator, Ref}
use Rattle.ic_laws.specs.Tree.{Bound, Spelled}
use Rattle.ic_laws.specs.declared.reference.Place.{Place}
use Rattle.ic_laws.specs.declared.reference.Place.TheVariants as places
use Rattle.ic_laws.specs.declared.reference.Position.TheVariants as at
use Rattle.ic_laws.specs.declared.tree.BinarySign.TheVariants as signs
use Rattle.ic_laws.specs.declared.tree.Formula.{Formula}
use Rattle.ic_laws.specs.declared.tree.Formula.TheVariants as formulas
use Rattle.ic_laws.specs.declared.tree.SheetMention.TheVariants as sheets
use Rattle.ic_laws.specs.declared.tree.Tree.TheOpen as one
use Rattle.ic_laws.proofs.binding.Again.{bound_node, bound-node, spelled-node}
use Rattle.ic_laws.proofs.parsing.Nodes.{height-node, yield-node}
use Rattle.ic_refs.specs.Column.{column_letters}
use Rattle.ic_tree.specs.Notations.{notations_of}
use Rattle.ic_tree.proofs.machine.Session.{answers, done, low, next, reads, shows, step, typed}
use Rattle.ic_tree.proofs.machine.Small.{in_english, small, start}

-- the cell one row down and one column to the right
abbrev further : Place
further = places.Cell (record { row = at.Rel (pos 1); column = at.Rel (pos 1) })

abbrev product : List ℕ → Spelled
product sheet = node (one.Binary signs.Times (node (one.Reference (Some sheet) further)) (node (one.Num (pos 2000000000))))

abbrev tokens : List ℕ → List Token
tokens sheet = Ref (record { sheet = Some sheet; place = further }) ∷ Operator signs.Times ∷ Num (pos 2000000000) ∷ []

abbrev found : Bound
found = bound_node (one.Binary signs.Times (bound_node (one.Reference (sheets.Sheet 2) further)) (bound_node (one.Num (pos 2000000000))))

-- the text reads as the product
falls : tokens_of (in_english (pos 1) (pos 1)) (codes "Data!B2*2") ≡ Some (tokens (codes "Data"))
unfolding longest_split bare_of read_local tokens_by caseless ucd_derived
falls = refl

read_high : (m b : ℕ) → reader (in_english (pos 1) (pos 1)) (suc (suc m)) b 1 (tokens (codes "Data")) ≡ Some (product (codes "Data"), [])
unfolding reader expression operand primary prefix_sign turns postfix binary joined_by
read_high m b =
    let left : Spelled = node (one.Reference (Some (codes "Data")) further) in
    let right : Spelled = node (one.Num (pos 2000000000)) in
    let low_left = low left (suc (suc m)) (omega (arith, height-node (one.Reference (Some (codes "Data")) further))) in
    let low_right = low right (suc m) (omega (arith, height-node (one.Num (pos 2000000000)))) in
    let low_both = low (product (codes "Data")) (suc (suc m)) (omega (arith, height-node (one.Binary signs.Times left right), height-node (one.Reference (Some (codes "Data")) further), height-node (one.Num (pos 2000000000)))) in
    simp (low_left, low_right, low_both)

read : read_as (in_english (pos 1) (pos 1)) (codes "Data!B2*2") ≡ Some (product (codes "Data"))
unfolding parsed
read = reads (in_english (pos 1) (pos 1)) (codes "Data!B2*2") (tokens (codes "Data")) (product (codes "Data")) falls (ap (option_and_then (λ r. nothing_after r.0 r.1)) (read_high 1022 128))

-- two sheets, of which the second has this name; the formula stands in the first cell
abbrev book : List ℕ → Formula → CoreBook
book name formula = record {
  sheets = record { id = 1; name = codes "Sheet1"; cells = ((pos 1, pos 1), formula) ∷ [] } ∷ record { id = 2; name = name; cells = [] } ∷ [];
  definitions = [];
  locale = codes "en";
  language = codes "en";
}

abbrev empty : CoreBook
empty = record {
  sheets = record { id = 1; name = codes "Sheet1"; cells = [] } ∷ record { id = 2; name = codes "Data"; cells = [] } ∷ [];
  definitions = [];
  locale = codes "en";
  language = codes "en";
}

finds : bound (english_function small) (scene_of empty) (Some 1) (product (codes "Data")) ≡ found
unfolding caseless notations_of
finds = simp bound-node

added : step start (codes "add_sheet\tData") ≡ (empty, Ok [])
unfolding step caseless commands core_step
added = refl

formula : cell_formula small empty 1 (pos 1) (pos 1) (codes "Data!B2*2") ≡ formulas.Tree found
unfolding notations_of
formula = typed empty 1 (pos 1) (pos 1) (codes "Data!B2*2") (product (codes "Data")) found read finds

written : step empty (codes "update_cell_with_formula\t0\t1\t1\t=Data!B2*2") ≡ (book (codes "Data") (formulas.Tree found), Ok [])
unfolding step caseless commands core_step
written = ap (λ f. (book (codes "Data") f, Ok [])) formula

keeps : kept (english_function small) (scene_of (book (codes "Data") (formulas.Tree found))) (scene_of (book (codes "My data") (formulas.Tree found))) same_keys (Some 1) found ≡ found
unfolding caseless notations_of
keeps = simp (spelled-node, bound-node)

renamed : step (book (codes "Data") (formulas.Tree found)) (codes "rename_sheet_by_index\t1\tMy data") ≡ (book (codes "My data") (formulas.Tree found), Ok [])
unfolding step caseless commands core_step
renamed = ap (λ t. (book (codes "My data") (formulas.Tree t), Ok [])) keeps

shown : shown_formula small (book (codes "My data") (formulas.Tree found)) (pos 1) (pos 1) (formulas.Tree found) ≡ codes "'My data'!B2*2"
unfolding caseless ucd_derived notations_of digits fraction_digits column_letters
shown = shows (book (codes "My data") (formulas.Tree found)) (pos 1) (pos 1) found (product (codes "My data")) (tokens (codes "My data")) (codes "'My data'!B2*2") (simp spelled-node) (simp yield-node) refl

told : step (book (codes "My data") (formulas.Tree found)) (codes "get_cell_formula\t0\t1\t1") ≡ (book (codes "My data") (formulas.Tree found), Ok (TextField (codes "='My data'!B2*2") ∷ []))
unfolding step caseless commands core_step
told = ap (λ text. (book (codes "My data") (formulas.Tree found), Ok (TextField (equals ∷ text) ∷ []))) shown

keeps_again : kept (english_function small) (scene_of (book (codes "My data") (formulas.Tree found))) (scene_of (book (codes "Z") (formulas.Tree found))) same_keys (Some 1) found ≡ found
unfolding caseless notations_of
keeps_again = simp (spelled-node, bound-node)

renamed_again : step (book (codes "My data") (formulas.Tree found)) (codes "rename_sheet\tmy DATA\tZ") ≡ (book (codes "Z") (formulas.Tree found), Ok [])
unfolding step caseless commands core_step
renamed_again = ap (λ t. (book (codes "Z") (formulas.Tree t), Ok [])) keeps_again

nothing_renamed : step (book (codes "Z") (formulas.Tree found)) (codes "rename_sheet\tnope\tQ") ≡ (book (codes "Z") (formulas.Tree found), Err SheetNotFound)
unfolding step caseless commands core_step
nothing_renamed = refl

-- a formula shows the name that its sheet has now; a sheet is renamed by a name that agrees with its own
renamed_sheet : answers start
    (codes "add_sheet\tData" ∷ codes "update_cell_with_formula\t0\t1\t1\t=Data!B2*2" ∷ codes "rename_sheet_by_index\t1\tMy data" ∷ codes "get_cell_formula\t0\t1\t1" ∷ codes "rename_sheet\tmy DATA\tZ" ∷ codes "rename_sheet\tnope\tQ" ∷ [])
    ≡ codes "ok" ∷ codes "ok" ∷ codes "ok" ∷ codes "ok\t='My data'!B2*2" ∷ codes "ok" ∷ codes "error\tSheetNotFound" ∷ []
renamed_sheet = next _ _ _ _ _ _ added (next _ _ _ _ _ _ written (next _ _ _ _ _ _ renamed (next _ _ _ _ _ _ told (next _ _ _ _ _ _ renamed_again (next _ _ _ _ _ _ nothing_renamed (done _))))))
