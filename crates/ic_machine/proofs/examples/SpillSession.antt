-- A formula that spills, a value that is written over its spill, and values that are put, by example.
use Rattle.std.proofs.Common.{◌≡◌, ℕ, pos, negsuc, List, [], ◌∷◌, ◌++◌, Bool, true, false, not, ◌*◌, Option, None, Some, Ok, Err, codes, refl, ap, ap₂, ◌∙◌, if◌then◌else◌}
use Rattle.std.specs.Fmt.{digits}
use Rattle.std.specs.FinMap as finite
use Rattle.std.specs.Option.{option_map_or}
use Rattle.std.specs.Prelude.{flat_map}
use Rattle.caseless.proofs.Computing.{caseless}
use Rattle.ucd_derived.proofs.Computing.{ucd_derived}
use Rattle.ic_laws.specs.Amount.{fraction_digits}
use Rattle.ic_laws.specs.Binding.{bound}
use Rattle.ic_laws.specs.CoreBook.{CellPlace}
use Rattle.ic_laws.specs.FormulaReading.{cell_formula}
use Rattle.ic_laws.specs.NextToken.{bare_of, tokens_by}
use Rattle.ic_laws.specs.SheetText.{read_local}
use Rattle.ic_laws.specs.Notations.{english_function}
use Rattle.ic_laws.specs.ReadAs.{read_as}
use Rattle.ic_laws.specs.Split.{longest_split}
use Rattle.ic_laws.specs.Tree.{Bound}
use Rattle.ic_laws.specs.declared.reference.Place.TheVariants as places
use Rattle.ic_laws.specs.declared.reference.Position.TheVariants as at
use Rattle.ic_laws.specs.declared.reference.RefToken.{RefToken}
use Rattle.ic_laws.specs.declared.tree.Formula.{Formula}
use Rattle.ic_laws.specs.declared.tree.Formula.TheVariants as formulas
use Rattle.ic_laws.specs.declared.tree.SheetMention.TheVariants as sheets
use Rattle.ic_laws.specs.declared.tree.Tree.TheOpen as one
use Rattle.ic_laws.proofs.binding.Again.{bound_node, bound-node}
use Rattle.ic_laws.proofs.core.CellWritten.{place_cmp_total}
use Rattle.ic_tree.specs.Dynamic.{dynamic_with}
use Rattle.ic_tree.specs.Notations.{notations_of}
use Rattle.ic_cells.specs.Style.{default_style, is_style}
use Rattle.ic_cells.specs.declared.cell.ArrayKind.TheVariants as kinds
use Rattle.ic_cells.specs.declared.style.Style.{Style}
use Rattle.ic_cells.specs.declared.value.CellType.TheVariants as types
use Rattle.ic_cells.specs.declared.value.CellValue.TheVariants as cell_values
use Rattle.ic_cells.specs.declared.value.FormulaValue.{FormulaValue}
use Rattle.ic_cells.specs.declared.value.FormulaValue.TheVariants as values
use Rattle.ic_cells.specs.declared.value.SpillValue.{SpillValue}
use Rattle.ic_cells.specs.declared.value.SpillValue.TheVariants as spills
use Rattle.ic_grid.specs.Block.{is_between, is_span_within}
use Rattle.ic_grid.specs.Contents.{Contents, remade}
use Rattle.ic_grid.specs.Prepare.{written}
use Rattle.ic_grid.specs.Shape.{is_empty, is_formula}
use Rattle.ic_grid.specs.Spill.{spilled}
use Rattle.ic_grid.specs.Value.{shape_at, valued}
use Rattle.ic_grid.specs.declared.block.Block.{Block}
use Rattle.ic_input.specs.Number.{from_digits, unsigned_number}
use Rattle.ic_input.specs.Typed as typing
use Rattle.ic_input.specs.declared.input.Typed.TheVariants as typed
use Rattle.ic_machine.specs.Book.{Book, Entry, Sheet, core_of, empty_grid, on_grid, scene_in, unless, unless_refused}
use Rattle.ic_machine.specs.Command.{commands}
use Rattle.ic_machine.specs.Content.{AnchorContent, Content, EmptyContent, FormulaContent, NumContent, SpillContent, held, shape_of, type_of}
use Rattle.ic_machine.specs.InForce.{typed_in, value_in}
use Rattle.ic_machine.specs.Refusal.{NoFormulaCell, Refusal, SpillBlocked, first_refusal}
use Rattle.ic_machine.specs.Reply.{AmountField, BoolField, NumberField, PositionField, Reply, TextField, bool_field, text_field}
use Rattle.ic_machine.specs.Step.{outcome_of}
use Rattle.ic_machine.specs.subjects.Arrays.{put_spill_step, put_value_step, spill_causes}
use Rattle.ic_machine.specs.subjects.Reading.{all_cells_step, empty_step, place_fields, type_name, type_step, value_fields, value_step}
use Rattle.ic_machine.specs.subjects.Writing.{formula_content}
use Rattle.ic_machine.proofs.as_core.CoreLemmas.{no_cells}
use Rattle.ic_machine.proofs.examples.Formulas.{dynamic-node, formula_is, in_english, reads_reference, reference, small}
use Rattle.ic_machine.proofs.examples.OneSheet.{by_grid, input_done, one_cell, put_first, sheet_with, with_first}
use Rattle.ic_machine.proofs.examples.Session.{answers, done, next, step}
use Rattle.ic_machine.proofs.examples.Small.{start, tables}

-- the first, the second and the third cell of the third column
abbrev first : CellPlace
first = (pos 1, pos 3)

abbrev second : CellPlace
second = (pos 2, pos 3)

abbrev third : CellPlace
third = (pos 3, pos 3)

abbrev block : Block
block = record { row = pos 1; column = pos 3; width = pos 1; height = pos 3 }

abbrev plain : List Style
plain = default_style ∷ []

-- A1:A3, as it is written in the first of these
abbrev range : RefToken
range = record {
  sheet = None;
  place = places.Range (record { row = at.Rel (pos 0); column = at.Rel (negsuc 1) }) (record { row = at.Rel (pos 2); column = at.Rel (negsuc 1) });
}

abbrev range_kept : Bound
range_kept = bound_node (one.Reference sheets.Own range.place)

abbrev sheet : Contents Content → Sheet
sheet contents = sheet_with (formulas.Tree range_kept ∷ []) contents

abbrev book : Contents Content → Book
book contents = with_first start [] (sheet contents) plain

-- what stands in the three cells
abbrev three : Content → Content → Content → Contents Content
three a b c = finite.insert (finite.insert (finite.insert finite.empty first a) second b) third c

abbrev anchor : ℕ → FormulaValue → Content
anchor height value = AnchorContent 0 (pos 1, pos height) kinds.Dynamic value 0

abbrev spill : SpillValue → Content
spill value = SpillContent first value 0

abbrev amount : ℕ → SpillValue
amount n = spills.Number (pos (n * 1000000000))

abbrev seven : Content
seven = NumContent (pos 7000000000) 0

abbrev alone : Contents Content
alone = one_cell first (anchor 1 values.Unevaluated)

abbrev spilt : Contents Content
spilt = three (anchor 3 (values.Number (pos 1000000000))) (spill (amount 2)) (spill (spills.Text (codes "x")))

abbrev over : Contents Content
over = three (anchor 1 values.Unevaluated) seven (EmptyContent 0)

abbrev given : Contents Content
given = three (anchor 1 (values.Number (pos 4000000000))) seven (EmptyContent 0)

-- ---- the formula

range_read : read_as (in_english (pos 1) (pos 3)) (codes "A1:A3") ≡ Some (reference range)
unfolding longest_split bare_of read_local tokens_by caseless ucd_derived
range_read = reads_reference (in_english (pos 1) (pos 3)) (codes "A1:A3") range refl refl

range_bound : bound (english_function small) (scene_in start) (Some 1) (reference range) ≡ range_kept
unfolding notations_of
range_bound = simp bound-node

abbrev formula : Formula
formula = cell_formula small (core_of start) 1 (pos 1) (pos 3) (codes "A1:A3")

formula_reads : formula ≡ formulas.Tree range_kept
unfolding notations_of
formula_reads = formula_is start 1 (pos 1) (pos 3) (codes "A1:A3") (reference range) range_kept range_read range_bound

-- it may spill
dynamic : dynamic_with tables.kinds range_kept ≡ true
dynamic = simp dynamic-node

formula_typed : typed_in start (codes "=A1:A3") ≡ typed.Formula (codes "A1:A3")
unfolding typing.typed
formula_typed = refl

abbrev after_formula : Formula → Content → Book × Reply
after_formula f content = (with_first start [] (sheet_with (f ∷ []) (one_cell first content)) plain, Ok [])

formula_put : step start (codes "set_user_input\t0\t1\t3\t=A1:A3") ≡ (book alone, Ok [])
unfolding step commands is_style notations_of
formula_put =
    ap (outcome_of start)
    (input_done start [] (sheet_with [] finite.empty) plain first (codes "=A1:A3") (typed.Formula (codes "A1:A3")) 0 (one_cell first (formula_content tables.kinds formula 0 0)) formula_typed
    (simp (finite.get-empty)) (simp (finite.get-empty)) (put_first first (formula_content tables.kinds formula 0 0)))
    ∙ ap (λ (f : Formula). after_formula f (formula_content tables.kinds f 0 0)) formula_reads
    ∙ ap (λ (b : Bool). after_formula (formulas.Tree range_kept) (if b then anchor 1 values.Unevaluated else FormulaContent 0 values.Unevaluated 0)) dynamic

-- ---- its values

abbrev three_values : List SpillValue
three_values = amount 1 ∷ amount 2 ∷ spills.Text (codes "x") ∷ []

free : first_refusal (spill_causes (record empty_grid { contents = alone }) block 3) ≡ None
unfolding is_between is_span_within
free = simp (finite.gets, place_cmp_total)

spilled_are : spilled held finite.empty finite.empty block three_values alone ≡ spilt
unfolding remade
spilled_are = finite.same_entries_map _ _ (simp (finite.gets, place_cmp_total, finite.entries-insert, no_cells))

spill_put : step (book alone) (codes "put_spill\t0\t1\t3\t1\t3\tn:1\tn:2\tt:x") ≡ (book spilt, Ok [])
unfolding step commands on_grid put_spill_step
spill_put =
    ap (λ (o : Option Refusal). by_grid start [] (sheet alone) plain (unless o (record empty_grid { contents = spilled held finite.empty finite.empty block three_values alone }) [])) free
    ∙ ap (λ (contents : Contents Content). let left : Book × Reply = (book contents, Ok []) in left) spilled_are

second_there : finite.get spilt second ≡ Some (spill (amount 2))
second_there = simp (finite.gets, place_cmp_total)

abbrev value_told : Contents Content → Option Content → Book × Reply
value_told contents o = outcome_of (book contents) (unless_refused [] (book contents) (value_fields (option_map_or (value_in (book contents)) o cell_values.None)))

told_two : step (book spilt) (codes "get_cell_value_by_index\t0\t2\t3") ≡ (book spilt, Ok (TextField (codes "number") ∷ AmountField (pos 2000000000) ∷ []))
unfolding step commands value_step
told_two = ap (value_told spilt) second_there

-- ---- a number over the spill

seven_typed : typed_in start (codes "7") ≡ typed.Number (pos 7000000000) None
unfolding typing.typed unsigned_number from_digits
seven_typed = refl

over_is : written held second seven spilt ≡ over
unfolding remade
over_is = finite.same_entries_map _ _ (simp (finite.gets, place_cmp_total, finite.entries-insert, no_cells))

written_over : step (book spilt) (codes "set_user_input\t0\t2\t3\t7") ≡ (book over, Ok [])
unfolding step commands is_style
written_over =
    ap (outcome_of (book spilt))
    (input_done start [] (sheet spilt) plain second (codes "7") (typed.Number (pos 7000000000) None) 0 over seven_typed (simp (finite.gets, place_cmp_total)) (simp (finite.gets, place_cmp_total)) over_is)

third_empty : finite.get over third ≡ Some (EmptyContent 0)
third_empty = simp (finite.gets, place_cmp_total)

told_empty : step (book over) (codes "is_empty_cell\t0\t3\t3") ≡ (book over, Ok (BoolField true ∷ []))
unfolding step commands empty_step
told_empty = ap (λ (o : Option Content). outcome_of (book over) (unless_refused [] (book over) (bool_field (option_map_or (λ content. is_empty (shape_of content)) o true)))) third_empty

first_there : finite.get over first ≡ Some (anchor 1 values.Unevaluated)
first_there = simp (finite.gets, place_cmp_total)

told_error : step (book over) (codes "get_cell_value_by_index\t0\t1\t3") ≡ (book over, Ok (TextField (codes "string") ∷ TextField (codes "#ERROR!") ∷ []))
unfolding step commands value_step
told_error = ap (value_told over) first_there

told_type : step (book over) (codes "get_cell_type\t0\t1\t3") ≡ (book over, Ok (TextField (codes "Number") ∷ []))
unfolding step commands type_step
told_type = ap (λ (o : Option Content). outcome_of (book over) (unless_refused [] (book over) (text_field (type_name (option_map_or type_of o types.Number))))) first_there

-- ---- it blocks the spill, and the formula gets one value

blocked : put_spill_step block three_values (record empty_grid { contents = over }) ≡ Err (SpillBlocked (pos 2) (pos 3))
unfolding put_spill_step is_between is_span_within
blocked = simp (finite.gets, place_cmp_total)

refused : step (book over) (codes "put_spill\t0\t1\t3\t1\t3\tn:1\tn:2\tt:x") ≡ (book over, Err (SpillBlocked (pos 2) (pos 3)))
unfolding step commands on_grid
refused = ap (by_grid start [] (sheet over) plain) blocked

is_given : valued held first (values.Number (pos 4000000000)) over ≡ given
unfolding remade
is_given = finite.same_entries_map _ _ (simp (finite.gets, place_cmp_total, finite.entries-insert, no_cells))

abbrev value_put : Bool → Contents Content → Book × Reply
value_put lacks contents = by_grid start [] (sheet over) plain (unless_refused ((lacks, NoFormulaCell) ∷ []) (record empty_grid { contents = contents }) [])

has_formula : not (is_formula (shape_at held over first)) ≡ false
has_formula = simp (finite.gets, place_cmp_total)

put : step (book over) (codes "put_formula_value\t0\t1\t3\tn:4") ≡ (book given, Ok [])
unfolding step commands on_grid put_value_step
put = ap₂ value_put has_formula is_given

no_formula : put_value_step (pos 9, pos 9) (values.Number (pos 4000000000)) (record empty_grid { contents = given }) ≡ Err NoFormulaCell
unfolding put_value_step
no_formula = simp (finite.gets, place_cmp_total)

not_put : step (book given) (codes "put_formula_value\t0\t9\t9\tn:4") ≡ (book given, Err NoFormulaCell)
unfolding step commands on_grid
not_put = ap (by_grid start [] (sheet given) plain) no_formula

-- ---- all cells

given_entries : finite.entries given ≡ (first, anchor 1 (values.Number (pos 4000000000))) ∷ (second, seven) ∷ (third, EmptyContent 0) ∷ []
given_entries = simp (finite.entries-insert, place_cmp_total, no_cells)

told_all : step (book given) (codes "get_all_cells")
    ≡ (book given, Ok (NumberField (Some 0) ∷ PositionField (pos 1) ∷ PositionField (pos 3) ∷ NumberField (Some 0) ∷ PositionField (pos 2) ∷ PositionField (pos 3) ∷ NumberField (Some 0) ∷ PositionField (pos 3) ∷ PositionField (pos 3) ∷ []))
unfolding step commands all_cells_step
told_all = ap (λ (entries : List Entry). let left : Book × Reply = (book given, Ok (flat_map (place_fields 0) entries ++ [])) in left) given_entries

-- A formula that may spill gives its values to the cells below it, until one of them is written: then it has none, and
-- what spilled is emptied. It takes one value of its own.
spilled_formula : answers start
    (codes "set_user_input\t0\t1\t3\t=A1:A3" ∷ codes "put_spill\t0\t1\t3\t1\t3\tn:1\tn:2\tt:x" ∷ codes "get_cell_value_by_index\t0\t2\t3" ∷ codes "set_user_input\t0\t2\t3\t7"
    ∷ codes "is_empty_cell\t0\t3\t3" ∷ codes "get_cell_value_by_index\t0\t1\t3" ∷ codes "get_cell_type\t0\t1\t3" ∷ codes "put_spill\t0\t1\t3\t1\t3\tn:1\tn:2\tt:x"
    ∷ codes "put_formula_value\t0\t1\t3\tn:4" ∷ codes "put_formula_value\t0\t9\t9\tn:4" ∷ codes "get_all_cells" ∷ [])
    ≡ codes "ok" ∷ codes "ok" ∷ codes "ok\tnumber\t2" ∷ codes "ok"
    ∷ codes "ok\ttrue" ∷ codes "ok\tstring\t#ERROR!" ∷ codes "ok\tNumber" ∷ codes "error\tSpillBlocked"
    ∷ codes "ok" ∷ codes "error\tNoFormulaCell" ∷ codes "ok\t0\t1\t3\t0\t2\t3\t0\t3\t3" ∷ []
unfolding digits fraction_digits
spilled_formula =
    next _ _ _ _ _ _ formula_put (next _ _ _ _ _ _ spill_put (next _ _ _ _ _ _ told_two (next _ _ _ _ _ _ written_over
    (next _ _ _ _ _ _ told_empty (next _ _ _ _ _ _ told_error (next _ _ _ _ _ _ told_type (next _ _ _ _ _ _ refused
    (next _ _ _ _ _ _ put (next _ _ _ _ _ _ not_put (next _ _ _ _ _ _ told_all (done _)))))))))))
