use Rattle.std.proofs.Common.{subst, subst₂, sym, ◌∙◌, None}
use Rattle.std.proofs.lemmas.Result.{IfOk-weaker}
use Rattle.std.specs.List.{IsDistinct}
use Rattle.std.specs.Prelude.{nat_eq}
use Rattle.ic_sheets.proofs.MakesLemmas.{dangling_looked_at, each_makes, found_stay, looked_at_known}
use Rattle.ic_sheets.proofs.SearchLemmas.{ids}
use Rattle.ic_sheets.specs.Index.{AreAtIndexes, AreDangling}
use Rattle.ic_sheets.specs.Rewriting.{Makes}
use Rattle.ic_sheets.proofs.sheets.Sheets.prepare_dangling.Goals as goal

pub prepare_own-requires-clause-placed : goal.prepare_own-requires-clause-placed
prepare_own-requires-clause-placed g c = subst (AreAtIndexes c.self.inside.indexes) (sym c.deref.ensures.value) c.self.invariant.1

pub prepare_own-requires-clause-known : goal.prepare_own-requires-clause-known
prepare_own-requires-clause-known g c =
    looked_at_known None c.deref-2.result.now c.deref.result.now
    (dangling_looked_at c.deref-2.result.now c.deref.result.now (subst₂ AreDangling (sym c.deref-2.ensures.value) (sym c.deref.ensures.value) c.self.invariant.2))

pub returns : goal.returns
returns g c =
    let change = g.C.BookChange.change c.args.change.now in
    let now = c.deref-2.result.now in
    let sheets = c.deref.result.now in
    let looked = dangling_looked_at now sheets (subst₂ AreDangling (sym c.deref-2.ensures.value) (sym c.deref.ensures.value) c.self.invariant.2) in
    let differ = subst (λ xs. IsDistinct nat_eq (ids xs)) (sym c.deref.ensures.value) c.self.invariant.0.ids_differ in
    IfOk-weaker c.prepare_own.result _ _
    (λ prepared h. subst (Makes change prepared.items) (c.deref.ensures.value ∙ c.self.view_is)
    (each_makes change now prepared.items sheets h (looked_at_known None now sheets looked) looked.differ differ (found_stay change None now sheets looked differ (λ id e. c.requires id)))) c.prepare_own.ensures
