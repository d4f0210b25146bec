use Rattle.std.proofs.Common.{◌∙◌, [], ◌∷◌, ap, subst, sym}
use Rattle.std.specs.List.{IsDistinct, list_any}
use Rattle.std.specs.Prelude.{nat_eq}
use Rattle.std.proofs.lemmas.Result.{IfOk-weaker}
use Rattle.ic_sheets.proofs.SearchLemmas.{ids}
use Rattle.ic_sheets.proofs.TestedLemmas.{passes_about}
use Rattle.ic_sheets.specs.Index.{AreAtIndexes}
use Rattle.ic_sheets.specs.Mentioners.{AreAbout}
use Rattle.ic_sheets.specs.Tested.{passes_in}
use Rattle.ic_sheets.proofs.sheets.Sheets.has_passing.Goals as goal

pub has_passing_with-requires : goal.has_passing_with-requires
has_passing_with-requires g c = subst (AreAtIndexes c.self.inside.indexes) (sym c.deref.ensures.value) c.self.invariant.1

pub returns : goal.returns
returns g c =
    let test = g.T.FormulaTest.passing c.args.test.now in
    let topics = c.topics-one.result.0 ∷ c.topics-one.result.1 ∷ [] in
    let now = c.deref-2.result.now in
    let sheets = c.deref.result.now in
    let same = c.deref.ensures.value ∙ c.self.view_is in
    let about = subst (AreAbout topics now) (sym same) (subst (λ ns. AreAbout topics ns c.args.self.now) (sym c.deref-2.ensures.value) c.in_ok-ids.ensures) in
    let differ = subst (λ xs. IsDistinct nat_eq (ids xs)) (sym c.deref.ensures.value) c.self.invariant.0.ids_differ in
    IfOk-weaker c.has_passing_with.result _ _ (λ has is. is ∙ passes_about test topics now sheets c.topics-one.ensures about differ ∙ ap (list_any (passes_in test)) same) c.has_passing_with.ensures
