-- Texts that read with a bracket more, and texts that don't read, by example.
use Rattle.std.proofs.Common.{◌≡◌, ℕ, suc, pos, List, [], ◌∷◌, None, Some, Ok, Err, option_and_then, codes, refl, arith, ap}
use Rattle.std.specs.Fmt.{digits}
use Rattle.caseless.proofs.Computing.{caseless}
use Rattle.ucd_derived.proofs.Computing.{ucd_derived}
use Rattle.ic_laws.specs.Binding.{bound}
use Rattle.ic_laws.specs.Character.{equals}
use Rattle.ic_laws.specs.Command.{TextField, commands}
use Rattle.ic_laws.specs.CoreBook.{CoreBook, Sheet, scene_of}
use Rattle.ic_laws.specs.CoreStep.{core_step}
use Rattle.ic_laws.specs.FormulaReading.{cell_formula, shown_formula}
use Rattle.ic_laws.specs.NextToken.{bare_of, tokens_by}
use Rattle.ic_laws.specs.SheetText.{read_local}
use Rattle.ic_laws.specs.Notations.{english_function}
use Rattle.ic_laws.specs.Parse.{argument, arguments, binary, expression, function_call, joined_by, listed, node, nothing_after, operand, parsed, postfix, prefix_sign, primary, reader, turns}
use Rattle.ic_laws.specs.ReadAs.{read_as}
use Rattle.ic_laws.specs.Refusal.{NotAFormula}
use Rattle.ic_laws.specs.Split.{longest_split}
use Rattle.ic_laws.specs.Token.{Token, Close, FunHead, Num, Operator, Ref, Semicolon}
use Rattle.ic_laws.specs.Tree.{Bound, Spelled}
use Rattle.ic_laws.specs.declared.reference.Place.TheVariants as places
use Rattle.ic_laws.specs.declared.reference.Position.TheVariants as at
use Rattle.ic_laws.specs.declared.reference.RefToken.{RefToken}
use Rattle.ic_laws.specs.declared.tree.BinarySign.TheVariants as signs
use Rattle.ic_laws.specs.declared.tree.Formula.{Formula}
use Rattle.ic_laws.specs.declared.tree.Formula.TheVariants as formulas
use Rattle.ic_laws.specs.declared.tree.SheetMention.TheVariants as sheets
use Rattle.ic_laws.specs.declared.tree.Tree.TheOpen as one
use Rattle.ic_laws.proofs.binding.Again.{bound_node, bound-node, spelled-node}
use Rattle.ic_laws.proofs.parsing.Nodes.{height-node, yield-node}
use Rattle.ic_refs.specs.Column.{column_letters}
use Rattle.ic_tree.specs.Notations.{notations_of}
use Rattle.ic_tree.proofs.machine.Session.{answers, closed, done, kept_raw, low, next, reads, reads_none, shows, step}
use Rattle.ic_tree.proofs.machine.Small.{in_english, small, start}

-- the first cell of the first sheet has this formula; after the sheet come these
abbrev book : Formula → List Sheet → CoreBook
book formula others = record {
  sheets = record { id = 1; name = codes "Sheet1"; cells = ((pos 1, pos 1), formula) ∷ [] } ∷ others;
  definitions = [];
  locale = codes "en";
  language = codes "en";
}

-- ---- a bracket that isn't closed

abbrev three_cells : RefToken
three_cells = record {
  sheet = None;
  place = places.Range (record { row = at.Rel (pos 0); column = at.Rel (pos 0) }) (record { row = at.Rel (pos 2); column = at.Rel (pos 0) });
}

abbrev sum : Spelled
sum = node (one.Fun 4 (node (one.Reference None three_cells.place) ∷ []))

abbrev sum_kept : Bound
sum_kept = bound_node (one.Fun 4 (bound_node (one.Reference sheets.Own three_cells.place) ∷ []))

open_high : (m b : ℕ) → reader (in_english (pos 1) (pos 1)) (suc (suc m)) (suc b) 1 (FunHead 4 ∷ Ref three_cells ∷ []) ≡ None
unfolding reader expression operand primary prefix_sign turns postfix binary function_call arguments argument listed
open_high m b =
    let low_cells = low (node (one.Reference None three_cells.place)) (suc m) (omega (arith, height-node (one.Reference None three_cells.place))) in simp low_cells

open_unread : read_as (in_english (pos 1) (pos 1)) (codes "SUM(A1:A3") ≡ None
unfolding longest_split bare_of read_local tokens_by caseless ucd_derived parsed
open_unread = reads_none (in_english (pos 1) (pos 1)) (codes "SUM(A1:A3") (FunHead 4 ∷ Ref three_cells ∷ []) refl (ap (option_and_then (λ r. nothing_after r.0 r.1)) (open_high 1022 127))

closed_high : (m b : ℕ) → reader (in_english (pos 1) (pos 1)) (suc (suc m)) (suc b) 1 (FunHead 4 ∷ Ref three_cells ∷ Close ∷ []) ≡ Some (sum, [])
unfolding reader expression operand primary prefix_sign turns postfix binary function_call arguments argument listed
closed_high m b =
    let cells : Spelled = node (one.Reference None three_cells.place) in
    let low_cells = low cells (suc m) (omega (arith, height-node (one.Reference None three_cells.place))) in
    let low_here = low sum (suc (suc m)) (omega (arith, height-node (one.Fun 4 (cells ∷ [])), height-node (one.Reference None three_cells.place))) in
    simp (low_cells, low_here)

closed_read : read_as (in_english (pos 1) (pos 1)) (codes "SUM(A1:A3)") ≡ Some sum
unfolding longest_split bare_of read_local tokens_by caseless ucd_derived parsed
closed_read = reads (in_english (pos 1) (pos 1)) (codes "SUM(A1:A3)") (FunHead 4 ∷ Ref three_cells ∷ Close ∷ []) sum refl (ap (option_and_then (λ r. nothing_after r.0 r.1)) (closed_high 1022 127))

sum_found : bound (english_function small) (scene_of start) (Some 1) sum ≡ sum_kept
unfolding caseless notations_of
sum_found = simp bound-node

sum_formula : cell_formula small start 1 (pos 1) (pos 1) (codes "SUM(A1:A3") ≡ formulas.Tree sum_kept
unfolding notations_of
sum_formula = closed start 1 (pos 1) (pos 1) (codes "SUM(A1:A3") sum sum_kept open_unread closed_read sum_found

sum_written : step start (codes "update_cell_with_formula\t0\t1\t1\t=SUM(A1:A3") ≡ (book (formulas.Tree sum_kept) [], Ok [])
unfolding step caseless commands core_step
sum_written = ap (λ f. (book f [], Ok [])) sum_formula

sum_shown : shown_formula small (book (formulas.Tree sum_kept) []) (pos 1) (pos 1) (formulas.Tree sum_kept) ≡ codes "SUM(A1:A3)"
unfolding notations_of digits column_letters
sum_shown = shows (book (formulas.Tree sum_kept) []) (pos 1) (pos 1) sum_kept sum (FunHead 4 ∷ Ref three_cells ∷ Close ∷ []) (codes "SUM(A1:A3)") (simp spelled-node) (simp yield-node) refl

sum_told : step (book (formulas.Tree sum_kept) []) (codes "get_cell_formula\t0\t1\t1") ≡ (book (formulas.Tree sum_kept) [], Ok (TextField (codes "=SUM(A1:A3)") ∷ []))
unfolding step caseless commands core_step
sum_told = ap (λ text. (book (formulas.Tree sum_kept) [], Ok (TextField (equals ∷ text) ∷ []))) sum_shown

-- a bracket that is left open at the end is closed
open_bracket : answers start (codes "update_cell_with_formula\t0\t1\t1\t=SUM(A1:A3" ∷ codes "get_cell_formula\t0\t1\t1" ∷ []) ≡ codes "ok" ∷ codes "ok\t=SUM(A1:A3)" ∷ []
open_bracket = next _ _ _ _ _ _ sum_written (next _ _ _ _ _ _ sum_told (done _))

-- ---- a text that doesn't read

abbrev one_and_plus : List Token → List Token
one_and_plus rest = Num (pos 1000000000) ∷ Operator signs.Plus ∷ rest

plus_high : (m b : ℕ) → reader (in_english (pos 1) (pos 1)) (suc (suc m)) b 1 (one_and_plus []) ≡ None
unfolding reader expression operand primary prefix_sign turns postfix binary joined_by
plus_high m b = let low_one = low (node (one.Num (pos 1000000000))) (suc (suc m)) (omega (arith, height-node (one.Num (pos 1000000000)))) in simp low_one

plus_unread : read_as (in_english (pos 1) (pos 1)) (codes "1+") ≡ None
unfolding longest_split bare_of read_local tokens_by caseless ucd_derived parsed
plus_unread = reads_none (in_english (pos 1) (pos 1)) (codes "1+") (one_and_plus []) refl (ap (option_and_then (λ r. nothing_after r.0 r.1)) (plus_high 1022 128))

plus_closed_high : (m b : ℕ) → reader (in_english (pos 1) (pos 1)) (suc (suc m)) b 1 (one_and_plus (Close ∷ [])) ≡ None
unfolding reader expression operand primary prefix_sign turns postfix binary joined_by
plus_closed_high m b = let low_one = low (node (one.Num (pos 1000000000))) (suc (suc m)) (omega (arith, height-node (one.Num (pos 1000000000)))) in simp low_one

plus_closed_unread : read_as (in_english (pos 1) (pos 1)) (codes "1+)") ≡ None
unfolding longest_split bare_of read_local tokens_by caseless ucd_derived parsed
plus_closed_unread = reads_none (in_english (pos 1) (pos 1)) (codes "1+)") (one_and_plus (Close ∷ [])) refl (ap (option_and_then (λ r. nothing_after r.0 r.1)) (plus_closed_high 1022 128))

nothing_written : step start (codes "update_cell_with_formula\t0\t1\t1\t=") ≡ (start, Err NotAFormula)
unfolding step caseless commands core_step
nothing_written = refl

plus_formula : cell_formula small start 1 (pos 1) (pos 1) (codes "1+") ≡ formulas.Raw (codes "1+")
unfolding notations_of
plus_formula = kept_raw start 1 (pos 1) (pos 1) (codes "1+") plus_unread plus_closed_unread

plus_written : step start (codes "update_cell_with_formula\t0\t1\t1\t=1+") ≡ (book (formulas.Raw (codes "1+")) [], Ok [])
unfolding step caseless commands core_step
plus_written = ap (λ f. (book f [], Ok [])) plus_formula

plus_told : answers (book (formulas.Raw (codes "1+")) []) (codes "get_cell_formula\t0\t1\t1" ∷ codes "set_language\tes" ∷ codes "get_cell_formula\t0\t1\t1" ∷ []) ≡ codes "ok\t=1+" ∷ codes "ok" ∷ codes "ok\t=1+" ∷ []
unfolding answers step caseless commands core_step notations_of
plus_told = refl

-- it is shown as it was typed, in every notation; an equals sign alone is no formula
unread : answers start
    (codes "update_cell_with_formula\t0\t1\t1\t=" ∷ codes "update_cell_with_formula\t0\t1\t1\t=1+" ∷ codes "get_cell_formula\t0\t1\t1" ∷ codes "set_language\tes" ∷ codes "get_cell_formula\t0\t1\t1" ∷ [])
    ≡ codes "error\tNotAFormula" ∷ codes "ok" ∷ codes "ok\t=1+" ∷ codes "ok" ∷ codes "ok\t=1+" ∷ []
unread = next _ _ _ _ _ _ nothing_written (next _ _ _ _ _ _ plus_written plus_told)

-- ---- a text that would read in another notation

abbrev two_rows : List Token → List Token
two_rows rest = FunHead 4 ∷ Num (pos 1000000000) ∷ Semicolon ∷ Num (pos 2000000000) ∷ rest

rows_high : (m b : ℕ) (rest : List Token) → reader (in_english (pos 1) (pos 1)) (suc (suc m)) (suc b) 1 (two_rows rest) ≡ None
unfolding reader expression operand primary prefix_sign turns postfix binary function_call arguments argument listed
rows_high m b rest = let low_one = low (node (one.Num (pos 1000000000))) (suc m) (omega (arith, height-node (one.Num (pos 1000000000)))) in simp low_one

rows_unread : read_as (in_english (pos 1) (pos 1)) (codes "SUM(1;2)") ≡ None
unfolding longest_split bare_of read_local tokens_by caseless ucd_derived parsed
rows_unread = reads_none (in_english (pos 1) (pos 1)) (codes "SUM(1;2)") (two_rows (Close ∷ [])) refl (ap (option_and_then (λ r. nothing_after r.0 r.1)) (rows_high 1022 127 (Close ∷ [])))

rows_closed_unread : read_as (in_english (pos 1) (pos 1)) (codes "SUM(1;2))") ≡ None
unfolding longest_split bare_of read_local tokens_by caseless ucd_derived parsed
rows_closed_unread = reads_none (in_english (pos 1) (pos 1)) (codes "SUM(1;2))") (two_rows (Close ∷ Close ∷ [])) refl (ap (option_and_then (λ r. nothing_after r.0 r.1)) (rows_high 1022 127 (Close ∷ Close ∷ [])))

rows_formula : cell_formula small start 1 (pos 1) (pos 1) (codes "SUM(1;2)") ≡ formulas.Raw (codes "SUM(1;2)")
unfolding notations_of
rows_formula = kept_raw start 1 (pos 1) (pos 1) (codes "SUM(1;2)") rows_unread rows_closed_unread

rows_written : step start (codes "update_cell_with_formula\t0\t1\t1\t=SUM(1;2)") ≡ (book (formulas.Raw (codes "SUM(1;2)")) [], Ok [])
unfolding step caseless commands core_step
rows_written = ap (λ f. (book f [], Ok [])) rows_formula

rows_told : answers (book (formulas.Raw (codes "SUM(1;2)")) []) (codes "set_locale\tes" ∷ codes "add_sheet\tData" ∷ codes "set_locale\ten" ∷ codes "get_cell_formula\t0\t1\t1" ∷ []) ≡ codes "ok" ∷ codes "ok" ∷ codes "ok" ∷ codes "ok\t=SUM(1;2)" ∷ []
unfolding answers step caseless commands core_step notations_of
rows_told = refl

-- it stays as it was typed where a sheet comes while it would read
stays_raw : answers start
    (codes "update_cell_with_formula\t0\t1\t1\t=SUM(1;2)" ∷ codes "set_locale\tes" ∷ codes "add_sheet\tData" ∷ codes "set_locale\ten" ∷ codes "get_cell_formula\t0\t1\t1" ∷ [])
    ≡ codes "ok" ∷ codes "ok" ∷ codes "ok" ∷ codes "ok" ∷ codes "ok\t=SUM(1;2)" ∷ []
stays_raw = next _ _ _ _ _ _ rows_written rows_told
