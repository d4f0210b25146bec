use Rattle.std.proofs.Common.{◌++◌, ◌∷◌, [], append_assoc, ap, length, map, subst, sym, take, ◌∙◌}
use Rattle.std.specs.List.{AllByRecursion, IsDistinct}
use Rattle.std.proofs.lemmas.Map.Keys.{IsDistinct-head, IsDistinct-tail}
use Rattle.ic_laws.specs.Scene.{same_key}
use Rattle.ic_definitions.specs.Named.{key_in}
use Rattle.ic_definitions.proofs.AppendedNames.{IsFree, still_free, taken_first}
use Rattle.ic_definitions.proofs.definitions.Definitions.push_all.Goals as goal

pub loop-definition-preserved : goal.loop-definition-preserved
loop-definition-preserved c =
    let old = c.args.self.now in
    let ds = c.loop-definition.self in
    let d = c.in-Some.definition in
    let rest = c.next.new.self.rest.items in
    let taken = c.in-Some.ensures.steps.0 in
    let pushed = c.in_ok-add_leaving_bodies.ensures.ok in
    let free = subst (AllByRecursion (IsFree ds)) taken c.loop-definition.invariant.free in
    let differ = subst (λ xs. IsDistinct same_key (map key_in xs)) taken c.loop-definition.invariant.differ in
    record {
      left = ap (λ xs. xs ++ rest) pushed ∙ append_assoc ds (d ∷ []) rest ∙ ap (λ xs. ds ++ xs) (sym taken) ∙ c.loop-definition.invariant.left;
      free = subst (λ xs. AllByRecursion (IsFree xs) rest) (sym pushed) (still_free ds d rest free.1 (IsDistinct-head same_key (key_in d) (map key_in rest) differ));
      differ = IsDistinct-tail same_key (key_in d) (map key_in rest) differ;
      first = ap (take (length old)) pushed ∙ taken_first old ds d c.loop-definition.invariant.first;
      finds = c.add_leaving_bodies.ensures.finds;
    }
