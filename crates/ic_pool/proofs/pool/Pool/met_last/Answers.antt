use Rattle.std.proofs.Common.{◌≡◌, ◌∙◌, ℕ, List, Some, ap, option_map, sym}
use Rattle.std.specs.List.{slice_get}
use Rattle.ic_laws.specs.declared.tree.Formula.{Formula}
use Rattle.ic_pool.specs.Code.{code}
use Rattle.ic_pool.specs.Pool.{PoolState, first_place}
use Rattle.ic_pool.proofs.LateLemmas.{first_is_there}
use Rattle.ic_pool.proofs.pool.Pool.met_last.Goals as goal

pub returns-in-Some : goal.returns-in-Some
returns-in-Some c =
    let xs : List Formula = c.args.self.now.formulas in
    let same : c.self.inside.formulas.items ≡ xs = ap (λ (s : PoolState). s.formulas) c.self.view_is in
    let at = c.in_ok-at.at in
    let other : Formula = c.in-Some.other.now in
    let first = c.self.invariant.last_is_first at c.in_ok-at.was in
    let stands : first_place first.0 xs ≡ Some at = ap (first_place first.0) (sym same) ∙ first.1 in
    let here : slice_get xs at ≡ Some other = sym c.get.ensures ∙ ap (option_map (λ f. f.now)) c.in-Some.is in
    let its : Some (code other) ≡ Some first.0 = ap (option_map code) (sym here) ∙ first_is_there first.0 xs at stands in
    let key : code c.args.formula.now ≡ first.0 = ap code (c.are_same.ensures c.if-are_same.true) ∙ same_items (code other) first.0 its in
    ap (λ k. first_place k xs) key ∙ stands
  where
    same_items : (a b : List ℕ) → Some a ≡ Some b → a ≡ b
    same_items a b e = cc
