use Rattle.std.proofs.Common.{◌≡◌, ◌∙◌, List, ap, ap₂, subst, sym, ℕ}
use Rattle.std.specs.List.{list_any}
use Rattle.std.proofs.lemmas.Result.{IfOk-weaker}
use Rattle.ic_laws.specs.declared.tree.Formula.{Formula}
use Rattle.ic_pool.specs.MentionPlaces.{KnowsAll}
use Rattle.ic_pool.specs.Mentioning.{passes_at}
use Rattle.ic_pool.specs.Pool.{PoolState}
use Rattle.ic_pool.proofs.TestedLemmas.{passing_beside, passing_seen}
use Rattle.ic_pool.proofs.pool.Pool.has_passing.Goals as goal

pub returns-then-branch : goal.returns-then-branch
returns-then-branch g c =
    let test = g.T.FormulaTest.passing c.args.test.now in
    let same : c.self.inside.formulas.items ≡ c.args.self.now.formulas = ap (λ (s : PoolState). s.formulas) c.self.view_is in
    let at : c.in_ok-has_passing_at.field-0 ≡ _ =
    c.in_ok-has_passing_at.ensures
    ∙ ap₂ (λ (xs : List Formula) (places : List ℕ). list_any (passes_at (test c.args.scope) xs) places) (c.deref-2.ensures.value ∙ same)
    c.places_with-places.ensures.places in
    passing_seen test c.args.scope _ _ c.self.inside.mentions c.args.self.now.formulas c.topics-one.ensures (subst (KnowsAll c.self.inside.mentions) same (c.self.invariant.mentioned c.if-not-self.false)) (sym at ∙ c.if-branch.true)

pub returns : goal.returns
returns g c =
    let test = g.T.FormulaTest.passing c.args.test.now in
    let same : c.self.inside.formulas.items ≡ c.args.self.now.formulas = ap (λ (s : PoolState). s.formulas) c.self.view_is in
    let at : c.in_ok-has_passing_at.field-0 ≡ _ =
    c.in_ok-has_passing_at.ensures
    ∙ ap₂ (λ (xs : List Formula) (places : List ℕ). list_any (passes_at (test c.args.scope) xs) places) (c.deref-2.ensures.value ∙ same)
    c.places_with-places.ensures.places in
    let beside =
    passing_beside test c.args.scope _ _ c.self.inside.mentions c.args.self.now.formulas c.topics-one.ensures (subst (KnowsAll c.self.inside.mentions) same (c.self.invariant.mentioned c.if-not-self.false)) (sym at ∙ c.if-branch.false) in
    IfOk-weaker c.has_passing_at-2.result _ _
    (λ has is. is ∙ ap₂ (λ (xs : List Formula) (places : List ℕ). list_any (passes_at (test c.args.scope) xs) places) (c.deref-3.ensures.value ∙ same) c.places_with-places-2.ensures.places ∙ beside) c.has_passing_at-2.ensures
