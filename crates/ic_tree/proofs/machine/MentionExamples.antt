-- A formula that mentions a sheet that isn't there, by example.
use Rattle.std.proofs.Common.{◌≡◌, ℕ, pos, List, [], ◌∷◌, Some, Ok, codes, refl, ap}
use Rattle.std.specs.Fmt.{digits}
use Rattle.caseless.proofs.Computing.{caseless}
use Rattle.ucd_derived.proofs.Computing.{ucd_derived}
use Rattle.ic_laws.specs.Binding.{bound}
use Rattle.ic_laws.specs.Character.{equals}
use Rattle.ic_laws.specs.Command.{TextField, commands}
use Rattle.ic_laws.specs.CoreBook.{CoreBook, Sheet, scene_of}
use Rattle.ic_laws.specs.CoreStep.{core_step}
use Rattle.ic_laws.specs.FormulaReading.{cell_formula, shown_formula}
use Rattle.ic_laws.specs.Keeping.{kept, same_keys}
use Rattle.ic_laws.specs.NextToken.{bare_of, tokens_by}
use Rattle.ic_laws.specs.SheetText.{read_local}
use Rattle.ic_laws.specs.Notations.{english_function}
use Rattle.ic_laws.specs.ReadAs.{read_as}
use Rattle.ic_laws.specs.Split.{longest_split}
use Rattle.ic_laws.specs.Token.{Ref}
use Rattle.ic_laws.specs.Tree.{Bound}
use Rattle.ic_laws.specs.declared.reference.Place.{Place}
use Rattle.ic_laws.specs.declared.reference.Place.TheVariants as places
use Rattle.ic_laws.specs.declared.reference.Position.TheVariants as at
use Rattle.ic_laws.specs.declared.reference.RefToken.{RefToken}
use Rattle.ic_laws.specs.declared.tree.Formula.TheVariants as formulas
use Rattle.ic_laws.specs.declared.tree.SheetMention.{SheetMention}
use Rattle.ic_laws.specs.declared.tree.SheetMention.TheVariants as sheets
use Rattle.ic_laws.specs.declared.tree.Tree.TheOpen as one
use Rattle.ic_laws.proofs.binding.Again.{bound_node, bound-node, spelled-node}
use Rattle.ic_laws.proofs.parsing.Nodes.{yield-node}
use Rattle.ic_refs.specs.Column.{column_letters}
use Rattle.ic_tree.specs.Notations.{notations_of}
use Rattle.ic_tree.proofs.machine.Readings.{reads_reference, reference}
use Rattle.ic_tree.proofs.machine.Session.{answers, done, next, reads, shows, step, typed}
use Rattle.ic_tree.proofs.machine.Small.{in_english, small, start}

-- the cell of the formula, on a sheet of this name
abbrev here : Place
here = places.Cell (record { row = at.Rel (pos 0); column = at.Rel (pos 0) })

abbrev on : List ℕ → RefToken
on sheet = record { sheet = Some sheet; place = here }

abbrev mention : SheetMention → Bound
mention sheet = bound_node (one.Reference sheet here)

-- the formula stands in the first cell of the first sheet; after that sheet come these
abbrev book : Bound → List Sheet → CoreBook
book formula others = record {
  sheets = record { id = 1; name = codes "Sheet1"; cells = ((pos 1, pos 1), formulas.Tree formula) ∷ [] } ∷ others;
  definitions = [];
  locale = codes "en";
  language = codes "en";
}

abbrev second : List ℕ → List Sheet
second name = record { id = 2; name = name; cells = [] } ∷ []

-- ---- a sheet of the name comes

abbrev dangling : Bound
dangling = mention (sheets.Dangling (codes "Later"))

abbrev found : Bound
found = mention (sheets.Sheet 2)

later_read : read_as (in_english (pos 1) (pos 1)) (codes "Later!A1") ≡ Some (reference (on (codes "Later")))
unfolding longest_split bare_of read_local tokens_by caseless ucd_derived
later_read = reads (in_english (pos 1) (pos 1)) (codes "Later!A1") (Ref (on (codes "Later")) ∷ []) (reference (on (codes "Later"))) refl (reads_reference (in_english (pos 1) (pos 1)) (on (codes "Later")) refl)

nothing_found : bound (english_function small) (scene_of start) (Some 1) (reference (on (codes "Later"))) ≡ dangling
unfolding caseless notations_of
nothing_found = simp bound-node

formula : cell_formula small start 1 (pos 1) (pos 1) (codes "Later!A1") ≡ formulas.Tree dangling
unfolding notations_of
formula = typed start 1 (pos 1) (pos 1) (codes "Later!A1") (reference (on (codes "Later"))) dangling later_read nothing_found

written : step start (codes "update_cell_with_formula\t0\t1\t1\t=Later!A1") ≡ (book dangling [], Ok [])
unfolding step caseless commands core_step
written = ap (λ f. (record (book dangling []) { sheets = record { id = 1; name = codes "Sheet1"; cells = ((pos 1, pos 1), f) ∷ [] } ∷ [] }, Ok [])) formula

comes : kept (english_function small) (scene_of (book dangling [])) (scene_of (book dangling (second (codes "LATER")))) same_keys (Some 1) dangling ≡ found
unfolding caseless notations_of
comes = simp (spelled-node, bound-node)

added : step (book dangling []) (codes "add_sheet\tLATER") ≡ (book found (second (codes "LATER")), Ok [])
unfolding step caseless commands core_step
added = ap (λ t. (book t (second (codes "LATER")), Ok [])) comes

shown : shown_formula small (book found (second (codes "LATER"))) (pos 1) (pos 1) (formulas.Tree found) ≡ codes "LATER!A1"
unfolding caseless ucd_derived notations_of digits column_letters
shown = shows (book found (second (codes "LATER"))) (pos 1) (pos 1) found (reference (on (codes "LATER"))) (Ref (on (codes "LATER")) ∷ []) (codes "LATER!A1") (simp spelled-node) (simp yield-node) refl

told : step (book found (second (codes "LATER"))) (codes "get_cell_formula\t0\t1\t1") ≡ (book found (second (codes "LATER")), Ok (TextField (codes "=LATER!A1") ∷ []))
unfolding step caseless commands core_step
told = ap (λ text. (book found (second (codes "LATER")), Ok (TextField (equals ∷ text) ∷ []))) shown

stays : kept (english_function small) (scene_of (book found (second (codes "LATER")))) (scene_of (book found (second (codes "X")))) same_keys (Some 1) found ≡ found
unfolding caseless notations_of
stays = simp (spelled-node, bound-node)

renamed : step (book found (second (codes "LATER"))) (codes "rename_sheet_by_index\t1\tX") ≡ (book found (second (codes "X")), Ok [])
unfolding step caseless commands core_step
renamed = ap (λ t. (book t (second (codes "X")), Ok [])) stays

shown_renamed : shown_formula small (book found (second (codes "X"))) (pos 1) (pos 1) (formulas.Tree found) ≡ codes "X!A1"
unfolding caseless ucd_derived notations_of digits column_letters
shown_renamed = shows (book found (second (codes "X"))) (pos 1) (pos 1) found (reference (on (codes "X"))) (Ref (on (codes "X")) ∷ []) (codes "X!A1") (simp spelled-node) (simp yield-node) refl

told_renamed : step (book found (second (codes "X"))) (codes "get_cell_formula\t0\t1\t1") ≡ (book found (second (codes "X")), Ok (TextField (codes "=X!A1") ∷ []))
unfolding step caseless commands core_step
told_renamed = ap (λ text. (book found (second (codes "X")), Ok (TextField (equals ∷ text) ∷ []))) shown_renamed

-- a sheet that a formula mentions comes later: from then on the formula means that sheet, under whatever name
dangling_sheet : answers start
    (codes "update_cell_with_formula\t0\t1\t1\t=Later!A1" ∷ codes "add_sheet\tLATER" ∷ codes "get_cell_formula\t0\t1\t1" ∷ codes "rename_sheet_by_index\t1\tX" ∷ codes "get_cell_formula\t0\t1\t1" ∷ [])
    ≡ codes "ok" ∷ codes "ok" ∷ codes "ok\t=LATER!A1" ∷ codes "ok" ∷ codes "ok\t=X!A1" ∷ []
dangling_sheet = next _ _ _ _ _ _ written (next _ _ _ _ _ _ added (next _ _ _ _ _ _ told (next _ _ _ _ _ _ renamed (next _ _ _ _ _ _ told_renamed (done _)))))

-- ---- the sheet goes and another one comes

abbrev gone : Bound
gone = mention (sheets.Dangling (codes "X"))

goes : kept (english_function small) (scene_of (book found (second (codes "X")))) (scene_of (book found [])) same_keys (Some 1) found ≡ gone
unfolding caseless notations_of
goes = simp (spelled-node, bound-node)

deleted : step (book found (second (codes "X"))) (codes "delete_sheet\t1") ≡ (book gone [], Ok [])
unfolding step caseless commands core_step
deleted = ap (λ t. (book t [], Ok [])) goes

shown_gone : shown_formula small (book gone []) (pos 1) (pos 1) (formulas.Tree gone) ≡ codes "X!A1"
unfolding caseless ucd_derived notations_of digits column_letters
shown_gone = shows (book gone []) (pos 1) (pos 1) gone (reference (on (codes "X"))) (Ref (on (codes "X")) ∷ []) (codes "X!A1") (simp spelled-node) (simp yield-node) refl

told_gone : step (book gone []) (codes "get_cell_formula\t0\t1\t1") ≡ (book gone [], Ok (TextField (codes "=X!A1") ∷ []))
unfolding step caseless commands core_step
told_gone = ap (λ text. (book gone [], Ok (TextField (equals ∷ text) ∷ []))) shown_gone

other_comes : kept (english_function small) (scene_of (book gone [])) (scene_of (book gone (second (codes "Other")))) same_keys (Some 1) gone ≡ gone
unfolding caseless notations_of
other_comes = simp (spelled-node, bound-node)

other_added : step (book gone []) (codes "add_sheet\tOther") ≡ (book gone (second (codes "Other")), Ok [])
unfolding step caseless commands core_step
other_added = ap (λ t. (book t (second (codes "Other")), Ok [])) other_comes

-- it is found again where another sheet is renamed so, in any case
comes_back : kept (english_function small) (scene_of (book gone (second (codes "Other")))) (scene_of (book gone (second (codes "x")))) same_keys (Some 1) gone ≡ found
unfolding caseless notations_of
comes_back = simp (spelled-node, bound-node)

back : step (book gone (second (codes "Other"))) (codes "rename_sheet\tother\tx") ≡ (book found (second (codes "x")), Ok [])
unfolding step caseless commands core_step
back = ap (λ t. (book t (second (codes "x")), Ok [])) comes_back

shown_back : shown_formula small (book found (second (codes "x"))) (pos 1) (pos 1) (formulas.Tree found) ≡ codes "x!A1"
unfolding caseless ucd_derived notations_of digits column_letters
shown_back = shows (book found (second (codes "x"))) (pos 1) (pos 1) found (reference (on (codes "x"))) (Ref (on (codes "x")) ∷ []) (codes "x!A1") (simp spelled-node) (simp yield-node) refl

told_back : step (book found (second (codes "x"))) (codes "get_cell_formula\t0\t1\t1") ≡ (book found (second (codes "x")), Ok (TextField (codes "=x!A1") ∷ []))
unfolding step caseless commands core_step
told_back = ap (λ text. (book found (second (codes "x")), Ok (TextField (equals ∷ text) ∷ []))) shown_back

-- The formula keeps the name of the sheet that is deleted, is left alone by a sheet of another name, and means the sheet
-- that comes to bear an agreeing one.
deleted_sheet : answers (book found (second (codes "X")))
    (codes "delete_sheet\t1" ∷ codes "get_cell_formula\t0\t1\t1" ∷ codes "add_sheet\tOther" ∷ codes "rename_sheet\tother\tx" ∷ codes "get_cell_formula\t0\t1\t1" ∷ [])
    ≡ codes "ok" ∷ codes "ok\t=X!A1" ∷ codes "ok" ∷ codes "ok" ∷ codes "ok\t=x!A1" ∷ []
deleted_sheet = next _ _ _ _ _ _ deleted (next _ _ _ _ _ _ told_gone (next _ _ _ _ _ _ other_added (next _ _ _ _ _ _ back (next _ _ _ _ _ _ told_back (done _)))))
