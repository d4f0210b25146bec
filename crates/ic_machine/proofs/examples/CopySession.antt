-- Copies of sheets by example: what their formulas show, and which definitions they get.
use Rattle.std.proofs.Common.{◌≡◌, ℕ, pos, negsuc, List, [], ◌∷◌, Bool, false, Option, None, Some, Ok, codes, refl, ap, ap₂, ◌∙◌, if◌then◌else◌}
use Rattle.std.specs.Fmt.{digits}
use Rattle.std.specs.FinMap as finite
use Rattle.std.specs.Option.{option_map, option_to_list, unwrap_or}
use Rattle.std.specs.Prelude.{bytes_eq, is_some}
use Rattle.caseless.proofs.Computing.{caseless}
use Rattle.ucd_derived.proofs.Computing.{ucd_derived}
use Rattle.ic_laws.specs.Binding.{bound}
use Rattle.ic_laws.specs.Character.{equals}
use Rattle.ic_laws.specs.CoreBook.{CellPlace, formula_at}
use Rattle.ic_laws.specs.CoreStep.{core_step, shown_field}
use Rattle.ic_laws.specs.FormulaReading.{cell_formula, shown_formula}
use Rattle.ic_laws.specs.Keeping.{kept, same_keys}
use Rattle.ic_laws.specs.NextToken.{bare_of, tokens_by}
use Rattle.ic_laws.specs.SheetText.{read_local}
use Rattle.ic_laws.specs.Notations.{english_function}
use Rattle.ic_laws.specs.ReadAs.{read_as}
use Rattle.ic_laws.specs.Split.{longest_split}
use Rattle.ic_laws.specs.Token.{Ref}
use Rattle.ic_laws.specs.Tree.{Bound}
use Rattle.ic_laws.specs.declared.reference.Place.{Place}
use Rattle.ic_laws.specs.declared.reference.Place.TheVariants as places
use Rattle.ic_laws.specs.declared.reference.Position.TheVariants as at
use Rattle.ic_laws.specs.declared.reference.RefPart.{RefPart}
use Rattle.ic_laws.specs.declared.reference.RefToken.{RefToken}
use Rattle.ic_laws.specs.declared.tree.Formula.{Formula}
use Rattle.ic_laws.specs.declared.tree.Formula.TheVariants as formulas
use Rattle.ic_laws.specs.declared.tree.SheetMention.TheVariants as sheets
use Rattle.ic_laws.specs.declared.tree.Tree.TheOpen as one
use Rattle.ic_laws.proofs.binding.Again.{bound_node, bound-node, spelled-node}
use Rattle.ic_laws.proofs.core.CellWritten.{place_cmp_total}
use Rattle.ic_laws.proofs.parsing.Nodes.{yield-node}
use Rattle.ic_refs.specs.Column.{column_letters}
use Rattle.ic_tree.specs.Dynamic.{dynamic_with}
use Rattle.ic_tree.specs.Notations.{notations_of}
use Rattle.ic_pool.specs.Bytes.{number_bytes}
use Rattle.ic_pool.specs.Code.{code}
use Rattle.ic_pool.proofs.CodeLaws.{code-node}
use Rattle.ic_cells.specs.Style.{default_style, is_style}
use Rattle.ic_cells.specs.declared.cell.ArrayKind.TheVariants as kinds
use Rattle.ic_cells.specs.declared.style.Style.{Style}
use Rattle.ic_cells.specs.declared.value.FormulaValue.TheVariants as values
use Rattle.ic_grid.specs.Contents.{Contents}
use Rattle.ic_grid.specs.Prepare.{written}
use Rattle.ic_input.specs.Typed.{formula_of}
use Rattle.ic_machine.specs.Book.{Book, Entry, Sheet, core_cells, core_of, empty_sheet, scene_in}
use Rattle.ic_machine.specs.Command.{commands}
use Rattle.ic_machine.specs.Content.{AnchorContent, Content, FormulaContent, held}
use Rattle.ic_machine.specs.InForce.{formula_typed}
use Rattle.ic_machine.specs.Placed.{index_in_pool, pool_with}
use Rattle.ic_machine.specs.Reply.{NumberField, Reply, TextField, of_core_fields}
use Rattle.ic_machine.specs.Step.{outcome_of}
use Rattle.ic_machine.specs.subjects.Reading.{cell_formula_step}
use Rattle.ic_machine.specs.subjects.Sheets.{add_sheet_step, copied_formula, duplicate_sheet_step}
use Rattle.ic_machine.specs.subjects.Writing.{formula_content}
use Rattle.ic_machine.proofs.as_core.CoreLemmas.{no_cells}
use Rattle.ic_machine.proofs.examples.CopyExamples.{of_another, of_itself, scene}
use Rattle.ic_machine.proofs.examples.Formulas.{dynamic-node, formula_is, in_english, reads_reference, reference, shows, small}
use Rattle.ic_machine.proofs.examples.OneSheet.{formula_done, one_cell, put_first, sheet_with, with_first}
use Rattle.ic_machine.proofs.examples.Session.{answers, done, next, step}
use Rattle.ic_machine.proofs.examples.Small.{start, tables}

abbrev plain : List Style
plain = default_style ∷ []

abbrev on : List ℕ → Place → RefToken
on name place = record { sheet = Some name; place = place }

abbrev mention : ℕ → Place → Bound
mention id place = bound_node (one.Reference (sheets.Sheet id) place)

abbrev formula : ℕ → Place → Formula
formula id place = formulas.Tree (mention id place)

-- Two formulas. ----

-- the cell itself; and the one below it and to its left
abbrev here : Place
here = places.Cell (record { row = at.Rel (pos 0); column = at.Rel (pos 0) })

abbrev beside : Place
beside = places.Cell (record { row = at.Rel (pos 1); column = at.Rel (negsuc 0) })

abbrev first : CellPlace
first = (pos 1, pos 1)

abbrev second : CellPlace
second = (pos 1, pos 2)

abbrev other : Sheet
other = empty_sheet 2 (codes "Other")

abbrev book : List Formula → Contents Content → Book
book pool contents = with_first start (other ∷ []) (sheet_with pool contents) plain

abbrev cell : ℕ → Content
cell index = FormulaContent index values.Unevaluated 0

abbrev one_formula : Contents Content
one_formula = one_cell first (cell 0)

abbrev two_formulas : Contents Content
two_formulas = finite.insert one_formula second (cell 1)

added : step start (codes "add_sheet\tOther") ≡ (book [] finite.empty, Ok [])
unfolding step commands caseless core_step add_sheet_step
added = refl

-- a reference to one cell gives one value
one_value : (id : ℕ) (part : RefPart) → dynamic_with tables.kinds (mention id (places.Cell part)) ≡ false
one_value id part = simp dynamic-node

abbrev if_dynamic : ℕ → Bool → Content
if_dynamic index b = if b then AnchorContent index (pos 1, pos 1) kinds.Dynamic values.Unevaluated 0 else cell index

other_read : read_as (in_english (pos 1) (pos 1)) (codes "Other!A1") ≡ Some (reference (on (codes "Other") here))
unfolding longest_split bare_of read_local tokens_by caseless ucd_derived
other_read = reads_reference (in_english (pos 1) (pos 1)) (codes "Other!A1") (on (codes "Other") here) refl refl

other_bound : bound (english_function small) (scene_in (book [] finite.empty)) (Some 1) (reference (on (codes "Other") here)) ≡ mention 2 here
unfolding caseless notations_of
other_bound = simp bound-node

abbrev other_formula : Formula
other_formula = cell_formula small (core_of (book [] finite.empty)) 1 (pos 1) (pos 1) (codes "Other!A1")

other_reads : other_formula ≡ formula 2 here
unfolding notations_of
other_reads = formula_is (book [] finite.empty) 1 (pos 1) (pos 1) (codes "Other!A1") (reference (on (codes "Other") here)) (mention 2 here) other_read other_bound

other_typed : formula_typed start (codes "=Other!A1") ≡ Some (codes "Other!A1")
unfolding formula_of
other_typed = refl

abbrev after_first : Formula → Content → Book × Reply
after_first f content = (book (f ∷ []) (one_cell first content), Ok [])

first_put : step (book [] finite.empty) (codes "update_cell_with_formula\t0\t1\t1\t=Other!A1") ≡ (book (formula 2 here ∷ []) one_formula, Ok [])
unfolding step commands is_style notations_of
first_put =
    ap (outcome_of (book [] finite.empty))
    (formula_done start (other ∷ []) (sheet_with [] finite.empty) plain first (codes "=Other!A1") (codes "Other!A1") 0 (one_cell first (formula_content tables.kinds other_formula 0 0)) other_typed
    (simp (finite.get-empty)) (simp (finite.get-empty)) (put_first first (formula_content tables.kinds other_formula 0 0)))
    ∙ ap (λ (f : Formula). after_first f (formula_content tables.kinds f 0 0)) other_reads
    ∙ ap (λ (b : Bool). after_first (formula 2 here) (if_dynamic 0 b)) (one_value 2 (record { row = at.Rel (pos 0); column = at.Rel (pos 0) }))

own_read : read_as (in_english (pos 1) (pos 2)) (codes "Sheet1!A2") ≡ Some (reference (on (codes "Sheet1") beside))
unfolding longest_split bare_of read_local tokens_by caseless ucd_derived
own_read = reads_reference (in_english (pos 1) (pos 2)) (codes "Sheet1!A2") (on (codes "Sheet1") beside) refl refl

abbrev with_one : Book
with_one = book (formula 2 here ∷ []) one_formula

own_bound : bound (english_function small) (scene_in with_one) (Some 1) (reference (on (codes "Sheet1") beside)) ≡ mention 1 beside
unfolding caseless notations_of
own_bound = simp bound-node

abbrev own_formula : Formula
own_formula = cell_formula small (core_of with_one) 1 (pos 1) (pos 2) (codes "Sheet1!A2")

own_reads : own_formula ≡ formula 1 beside
unfolding notations_of
own_reads = formula_is with_one 1 (pos 1) (pos 2) (codes "Sheet1!A2") (reference (on (codes "Sheet1") beside)) (mention 1 beside) own_read own_bound

own_typed : formula_typed start (codes "=Sheet1!A2") ≡ Some (codes "Sheet1!A2")
unfolding formula_of
own_typed = refl

-- it is another formula than the first
differs : bytes_eq (code (formula 1 beside)) (code (formula 2 here)) ≡ false
unfolding number_bytes
differs = simp code-node

put_second : (content : Content) → written held second content one_formula ≡ finite.insert one_formula second content
put_second content = simp (finite.gets, place_cmp_total)

abbrev after_second : List Formula → Content → Book × Reply
after_second pool content = (book pool (finite.insert one_formula second content), Ok [])

abbrev place_by : Bool → Option ℕ
place_by same = if same then Some 0 else None

second_put : step with_one (codes "update_cell_with_formula\t0\t1\t2\t=Sheet1!A2") ≡ (book (formula 2 here ∷ formula 1 beside ∷ []) two_formulas, Ok [])
unfolding step commands is_style notations_of
second_put =
    ap (outcome_of with_one)
    (formula_done start (other ∷ []) (sheet_with (formula 2 here ∷ []) one_formula) plain second (codes "=Sheet1!A2") (codes "Sheet1!A2") 0
    (finite.insert one_formula second (formula_content tables.kinds own_formula (index_in_pool own_formula (formula 2 here ∷ [])) 0)) own_typed
    (simp (finite.gets, place_cmp_total)) (simp (finite.gets, place_cmp_total)) (put_second (formula_content tables.kinds own_formula (index_in_pool own_formula (formula 2 here ∷ [])) 0)))
    ∙ ap (λ (f : Formula). after_second (pool_with f (formula 2 here ∷ [])) (formula_content tables.kinds f (index_in_pool f (formula 2 here ∷ [])) 0)) own_reads
    ∙ ap (λ (b : Bool). after_second (pool_with (formula 1 beside) (formula 2 here ∷ [])) (if_dynamic (index_in_pool (formula 1 beside) (formula 2 here ∷ [])) b)) (one_value 1 (record { row = at.Rel (pos 1); column = at.Rel (negsuc 0) }))
    ∙ ap (λ (same : Bool). after_second (if is_some (place_by same) then formula 2 here ∷ [] else formula 2 here ∷ formula 1 beside ∷ []) (cell (unwrap_or (place_by same) 1))) differs

-- ---- the copy

abbrev two : Book
two = book (formula 2 here ∷ formula 1 beside ∷ []) two_formulas

abbrev copy_name : List ℕ
copy_name = codes "Sheet1 (1)"

abbrev copy : Formula → Formula → Sheet
copy f g = record (sheet_with (f ∷ g ∷ []) two_formulas) { id = 3; name = copy_name }

abbrev copied : Formula → Formula → Formula → Formula → Book
copied a b f g = with_first start (copy f g ∷ other ∷ []) (sheet_with (a ∷ b ∷ []) two_formulas) plain

abbrev kept_over : Bound → Bound
kept_over t = kept (english_function small) (scene_in two) scene same_keys (Some 1) t

other_stays : kept_over (mention 2 here) ≡ mention 2 here
unfolding caseless notations_of
other_stays = simp (spelled-node, bound-node)

own_stays : kept_over (mention 1 beside) ≡ mention 1 beside
unfolding caseless notations_of
own_stays = simp (spelled-node, bound-node)

abbrev after_copy : Formula → Formula → Formula → Formula → Book × Reply
after_copy a b f g = (copied a b f g, Ok (TextField copy_name ∷ NumberField (Some 1) ∷ []))

abbrev last : Book
last = copied (formula 2 here) (formula 1 beside) (formula 2 here) (formula 3 beside)

copy_made : step two (codes "duplicate_sheet\t0") ≡ (last, Ok (TextField copy_name ∷ NumberField (Some 1) ∷ []))
unfolding step commands caseless duplicate_sheet_step digits
copy_made =
    ap₂ (λ (a b : Bound). after_copy (formulas.Tree a) (formulas.Tree b) (copied_formula small scene 1 3 (formula 2 here)) (copied_formula small scene 1 3 (formula 1 beside))) other_stays own_stays
    ∙ ap₂ (after_copy (formula 2 here) (formula 1 beside)) (of_another here) (of_itself beside)

entries_are : finite.entries two_formulas ≡ (first, cell 0) ∷ (second, cell 1) ∷ []
entries_are = simp (finite.entries-insert, place_cmp_total, no_cells)

abbrev told_by : ℕ → List Entry → Book × Reply
told_by column entries =
    (last, Ok (of_core_fields (option_to_list (option_map (shown_field small (core_of last) (pos 1) (pos column)) (formula_at (core_cells (formula 2 here ∷ formula 3 beside ∷ []) entries) (pos 1) (pos column))))))

abbrev told_text : List ℕ → Book × Reply
told_text text = (last, Ok (TextField (equals ∷ text) ∷ []))

other_shown : shown_formula small (core_of last) (pos 1) (pos 1) (formula 2 here) ≡ codes "Other!A1"
unfolding caseless ucd_derived notations_of digits column_letters
other_shown = shows last (pos 1) (pos 1) (mention 2 here) (reference (on (codes "Other") here)) (Ref (on (codes "Other") here) ∷ []) (codes "Other!A1") (simp spelled-node) (simp yield-node) refl

own_shown : shown_formula small (core_of last) (pos 1) (pos 2) (formula 3 beside) ≡ codes "'Sheet1 (1)'!A2"
unfolding caseless ucd_derived notations_of digits column_letters
own_shown = shows last (pos 1) (pos 2) (mention 3 beside) (reference (on copy_name beside)) (Ref (on copy_name beside) ∷ []) (codes "'Sheet1 (1)'!A2") (simp spelled-node) (simp yield-node) refl

told_other : step last (codes "get_cell_formula\t1\t1\t1") ≡ told_text (codes "Other!A1")
unfolding step commands core_step cell_formula_step
told_other = ap (told_by 1) entries_are ∙ ap told_text other_shown

told_own : step last (codes "get_cell_formula\t1\t1\t2") ≡ told_text (codes "'Sheet1 (1)'!A2")
unfolding step commands core_step cell_formula_step
told_own = ap (told_by 2) entries_are ∙ ap told_text own_shown

-- a copy's references to the sheet itself are to the copy, the others stay
copied_formulas : answers start
    (codes "add_sheet\tOther" ∷ codes "update_cell_with_formula\t0\t1\t1\t=Other!A1" ∷ codes "update_cell_with_formula\t0\t1\t2\t=Sheet1!A2" ∷ codes "duplicate_sheet\t0"
    ∷ codes "get_cell_formula\t1\t1\t1" ∷ codes "get_cell_formula\t1\t1\t2" ∷ [])
    ≡ codes "ok" ∷ codes "ok" ∷ codes "ok" ∷ codes "ok\tSheet1 (1)\t1" ∷ codes "ok\t=Other!A1" ∷ codes "ok\t='Sheet1 (1)'!A2" ∷ []
unfolding digits
copied_formulas =
    next _ _ _ _ _ _ added (next _ _ _ _ _ _ first_put (next _ _ _ _ _ _ second_put (next _ _ _ _ _ _ copy_made
    (next _ _ _ _ _ _ told_other (next _ _ _ _ _ _ told_own (done _))))))
