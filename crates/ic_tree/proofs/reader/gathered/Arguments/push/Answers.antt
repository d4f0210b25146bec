use Rattle.std.proofs.Common.{◌≡◌, ◌∙◌, ◌∷◌, [], List, ap, map, sym}
use Rattle.std.proofs.lemmas.List.{map-append}
use Rattle.ic_laws.specs.Greatest.{greatest}
use Rattle.ic_laws.specs.Tree.{Bound, height}
use Rattle.ic_tree.specs.Typed.{as_typed}
use Rattle.ic_tree.proofs.Heights.{pushed_greatest}
use Rattle.ic_tree.proofs.reader.gathered.Arguments.push.Goals.{else-len-lt4, then-len-lt4+in_ok-reserve_exact}
use Rattle.ic_tree.proofs.reader.gathered.Arguments.push.Goals as goal

pub invariant_of-self-2 : goal.invariant_of-self-2
invariant_of-self-2 c =
    let here = c.if-len-lt4.self-inside in
    let kept : here.highest ≡ greatest (map height (map as_typed here.trees.items)) = elim c.if-len-lt4.branch [
      | then-len-lt4+in_ok-reserve_exact w ↦
          ap (λ s. s.highest) w.self-inside-is ∙ c.self.invariant
          ∙ ap (λ (ts : List Bound). greatest (map height (map as_typed ts))) (sym (ap (λ s. s.trees.items) w.self-inside-is ∙ w.reserve_exact.ensures.items))
      | else-len-lt4 w ↦ ap (λ s. s.highest) w.self-inside-is ∙ c.self.invariant ∙ ap (λ s. greatest (map height (map as_typed s.trees.items))) (sym w.self-inside-is)
    ] in
    pushed_greatest height (map as_typed here.trees.items) (map as_typed c.push.new.self.items) c.args.tree _ here.highest c.into_parts-tree.result.1 _
    (ap (λ (ts : List Bound). map as_typed ts) c.in_ok-push.ensures.items ∙ map-append as_typed here.trees.items (c.into_parts-tree.result.0 ∷ []))
    c.into_parts-tree.ensures.tree kept c.into_parts-tree.ensures.nodes c.max-self-inside.ensures
