use Rattle.std.proofs.Common.{[], ◌∷◌, subst, sym, ◌∙◌}
use Rattle.std.proofs.lemmas.Result.{IfOk-weaker}
use Rattle.std.specs.List.{IsDistinct}
use Rattle.std.specs.Prelude.{nat_eq}
use Rattle.ic_sheets.proofs.MakesLemmas.{each_makes, spared_stay}
use Rattle.ic_sheets.proofs.PartLemmas.{part_distinct, part_known}
use Rattle.ic_sheets.proofs.SearchLemmas.{ids}
use Rattle.ic_sheets.specs.Index.{AreAtIndexes}
use Rattle.ic_sheets.specs.Mentioners.{AreAbout}
use Rattle.ic_sheets.specs.Rewriting.{Makes}
use Rattle.ic_sheets.proofs.sheets.Sheets.prepare.Goals as goal

pub prepare_own-requires-clause-placed : goal.prepare_own-requires-clause-placed
prepare_own-requires-clause-placed g c = subst (AreAtIndexes c.self.inside.indexes) (sym c.deref.ensures.value) c.self.invariant.1

pub prepare_own-requires-clause-known : goal.prepare_own-requires-clause-known
prepare_own-requires-clause-known g c =
    let about = subst (AreAbout (c.topic.result ∷ []) c.deref-2.result.now) (sym (c.deref.ensures.value ∙ c.self.view_is)) (subst (λ ns. AreAbout (c.topic.result ∷ []) ns c.args.self.now) (sym c.deref-2.ensures.value) c.in_ok-ids.ensures) in
    part_known c.deref-2.result.now (ids c.deref.result.now) about.ordered

pub returns : goal.returns
returns g c =
    let change = g.C.BookChange.change c.args.change.now in
    let now = c.deref-2.result.now in
    let sheets = c.deref.result.now in
    let about = subst (AreAbout (c.topic.result ∷ []) now) (sym (c.deref.ensures.value ∙ c.self.view_is)) (subst (λ ns. AreAbout (c.topic.result ∷ []) ns c.args.self.now) (sym c.deref-2.ensures.value) c.in_ok-ids.ensures) in
    let differ = subst (λ xs. IsDistinct nat_eq (ids xs)) (sym c.deref.ensures.value) c.self.invariant.0.ids_differ in
    IfOk-weaker c.prepare_own.result _ _
    (λ prepared h. subst (Makes change prepared.items) (c.deref.ensures.value ∙ c.self.view_is)
    (each_makes change now prepared.items sheets h (part_known now (ids sheets) about.ordered) (part_distinct now (ids sheets) about.ordered differ) differ (spared_stay change (c.topic.result ∷ []) now sheets c.topic.ensures about))) c.prepare_own.ensures
