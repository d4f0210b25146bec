use Rattle.std.proofs.Common.{List, Some, subst, subst₂, sym, ◌∙◌, ℕ}
use Rattle.std.proofs.lemmas.Result.{IfOk-weaker}
use Rattle.std.specs.List.{IsDistinct}
use Rattle.std.specs.Prelude.{nat_eq}
use Rattle.ic_sheets.proofs.MakesLemmas.{each_makes, found_stay, looked_at_known}
use Rattle.ic_sheets.proofs.SearchLemmas.{ids}
use Rattle.ic_sheets.specs.Index.{AreAtIndexes, AreDangling, AreLookedAt}
use Rattle.ic_sheets.specs.Rewriting.{Makes}
use Rattle.ic_sheets.proofs.sheets.Sheets.prepare_beside.Goals as goal

pub looked_at-requires-clause-placed : goal.looked_at-requires-clause-placed
looked_at-requires-clause-placed g c = subst (AreAtIndexes c.self.inside.indexes) (sym c.as_slice-sheets.ensures.value) c.self.invariant.1

pub looked_at-requires-clause-differ : goal.looked_at-requires-clause-differ
looked_at-requires-clause-differ g c = subst (λ xs. IsDistinct nat_eq (ids xs)) (sym c.as_slice-sheets.ensures.value) c.self.invariant.0.ids_differ

pub looked_at-requires-clause-dangling : goal.looked_at-requires-clause-dangling
looked_at-requires-clause-dangling g c = subst₂ AreDangling (sym c.deref.ensures.value) (sym c.as_slice-sheets.ensures.value) c.self.invariant.2

pub prepare_own-requires-clause-placed : goal.prepare_own-requires-clause-placed
prepare_own-requires-clause-placed g c = subst (AreAtIndexes c.self.inside.indexes) (sym c.as_slice-sheets.ensures.value) c.self.invariant.1

pub prepare_own-requires-clause-known : goal.prepare_own-requires-clause-known
prepare_own-requires-clause-known g c =
    looked_at_known (Some c.args.id) c.deref-2.result.now c.as_slice-sheets.result.now
    (subst (λ (xs : List ℕ). AreLookedAt (Some c.args.id) xs c.as_slice-sheets.result.now) (sym c.deref-2.ensures.value) c.in_ok-ids.ensures)

pub returns : goal.returns
returns g c =
    let change = g.C.BookChange.change c.args.change.now in
    let now = c.deref-2.result.now in
    let sheets = c.as_slice-sheets.result.now in
    let looked = subst (λ (xs : List ℕ). AreLookedAt (Some c.args.id) xs sheets) (sym c.deref-2.ensures.value) c.in_ok-ids.ensures in
    let differ = subst (λ xs. IsDistinct nat_eq (ids xs)) (sym c.as_slice-sheets.ensures.value) c.self.invariant.0.ids_differ in
    IfOk-weaker c.prepare_own.result _ _
    (λ prepared h. subst (Makes change prepared.items) (c.as_slice-sheets.ensures.value ∙ c.self.view_is)
    (each_makes change now prepared.items sheets h (looked_at_known (Some c.args.id) now sheets looked) looked.differ differ (found_stay change (Some c.args.id) now sheets looked differ c.requires))) c.prepare_own.ensures
