use Rattle.std.proofs.Common.{[], ◌∷◌, Some, subst, sym, ◌∙◌}
use Rattle.std.proofs.lemmas.Result.{IfOk-weaker}
use Rattle.std.specs.List.{AllByRecursion, IsDistinct}
use Rattle.std.specs.Prelude.{nat_eq}
use Rattle.ic_pool.specs.Remade.{LeavesUntouched}
use Rattle.ic_sheets.proofs.MakesLemmas.{untouched_stay}
use Rattle.ic_sheets.proofs.PartLemmas.{part_known}
use Rattle.ic_sheets.proofs.RemadeLemmas.{each_remade}
use Rattle.ic_sheets.proofs.SearchLemmas.{ids}
use Rattle.ic_sheets.specs.Index.{AreAtIndexes}
use Rattle.ic_sheets.specs.Mentioners.{AreAbout}
use Rattle.ic_sheets.specs.Remade.{AreRemade}
use Rattle.ic_sheets.specs.declared.sheet.Sheet.{Sheet}
use Rattle.ic_sheets.proofs.sheets.Sheets.prepare_remade.Goals as goal

pub prepare_remade-requires-clause-placed : goal.prepare_remade-requires-clause-placed
prepare_remade-requires-clause-placed g c = subst (AreAtIndexes c.self.inside.indexes) (sym c.deref.ensures.value) c.self.invariant.1

pub prepare_remade-requires-clause-known : goal.prepare_remade-requires-clause-known
prepare_remade-requires-clause-known g c =
    let about = subst (AreAbout (c.topics-one.result.0 ∷ c.topics-one.result.1 ∷ []) c.deref-2.result.now) (sym (c.deref.ensures.value ∙ c.self.view_is)) (subst (λ ns. AreAbout (c.topics-one.result.0 ∷ c.topics-one.result.1 ∷ []) ns c.args.self.now) (sym c.deref-2.ensures.value) c.in_ok-ids.ensures) in
    part_known c.deref-2.result.now (ids c.deref.result.now) about.ordered

pub prepare_remade-requires-clause-leaves : goal.prepare_remade-requires-clause-leaves
prepare_remade-requires-clause-leaves g c =
    subst (AllByRecursion (λ (s : Sheet). AllByRecursion (LeavesUntouched (g.R.Remaking.made c.args.remaking.now) (Some s.id)) s.pool.formulas)) (sym (c.deref.ensures.value ∙ c.self.view_is)) c.requires

pub returns : goal.returns
returns g c =
    let rule = g.R.Remaking.made c.args.remaking.now in
    let now = c.deref-2.result.now in
    let sheets = c.deref.result.now in
    let about = subst (AreAbout (c.topics-one.result.0 ∷ c.topics-one.result.1 ∷ []) now) (sym (c.deref.ensures.value ∙ c.self.view_is)) (subst (λ ns. AreAbout (c.topics-one.result.0 ∷ c.topics-one.result.1 ∷ []) ns c.args.self.now) (sym c.deref-2.ensures.value) c.in_ok-ids.ensures) in
    let differ = subst (λ xs. IsDistinct nat_eq (ids xs)) (sym c.deref.ensures.value) c.self.invariant.0.ids_differ in
    let leaves = subst (AllByRecursion (λ (s : Sheet). AllByRecursion (LeavesUntouched rule (Some s.id)) s.pool.formulas)) (sym (c.deref.ensures.value ∙ c.self.view_is)) c.requires in
    IfOk-weaker c.prepare_remade.result _ _
    (λ prepared h. subst (AreRemade rule prepared.items) (c.deref.ensures.value ∙ c.self.view_is)
    (each_remade rule now prepared.items sheets h about.ordered differ (untouched_stay rule (c.topics-one.result.0 ∷ c.topics-one.result.1 ∷ []) now sheets c.topics-one.ensures about) leaves)) c.prepare_remade.ensures
