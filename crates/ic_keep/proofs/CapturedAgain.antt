-- What an update captures of a call, beside what the call is bound to again.
use Rattle.std.proofs.Common.{◌≡◌, ℕ, List, [], map, Bool, false, ◌||◌, Option, ap, sym, ◌∙◌}
use Rattle.ic_laws.proofs.binding.Again.{BoundKind, bound-node, bound_node, children_spelled, once, spelled-node, under}
use Rattle.ic_laws.specs.Binding.{spelled_kind}
use Rattle.ic_laws.specs.Keeping.{KeyChange}
use Rattle.ic_laws.specs.Tree.{Bound}
use Rattle.ic_laws.specs.declared.scene.Scene.{Scene}
use Rattle.ic_laws.specs.declared.tree.NameKey.{NameKey}
use Rattle.ic_laws.specs.declared.tree.NameMention.{NameMention}
use Rattle.ic_laws.specs.declared.tree.SheetMention.{SheetMention}
use Rattle.ic_laws.specs.declared.tree.Tree.{out-roll-Tree}
use Rattle.ic_laws.specs.declared.tree.Tree.TheOpen as one
use Rattle.ic_keep.proofs.WordWalk.{tested-node}
use Rattle.ic_keep.specs.Alike.{arguments_here, first_part}
use Rattle.ic_keep.specs.Capture.{captured_beside, captured_step, part_captured, some_captured}
use Rattle.ic_keep.specs.Rebound.{all_rebound, rebound}

module _ (keys : KeyChange) (english : List ℕ → Option ℕ) (scene : Scene) (sheet_text : ℕ → List ℕ) (key_text : NameKey → List ℕ) (scope : Option ℕ) where
  abbrev again : Bound → Bound
  again = rebound english scene sheet_text key_text scope

  abbrev beside : Bound → Bound → Bool
  beside = captured_beside keys

  abbrev kind_again : BoundKind → BoundKind
  kind_again kind = once english scene scope (spelled_kind sheet_text key_text (children_spelled sheet_text key_text kind)) []

  node_again : (kind : BoundKind) → again (bound_node kind) ≡ bound_node (kind_again kind)
  node_again kind =
      ap (λ s. under english scene scope s []) (spelled-node sheet_text key_text kind)
      ∙ bound-node english scene scope (spelled_kind sheet_text key_text (children_spelled sheet_text key_text kind)) []

  abbrev some_again : List Bound → Bool
  some_again arguments = some_captured (map beside arguments) (all_rebound english scene sheet_text key_text scope arguments)

  pub function_captured : (number : ℕ) (arguments all : List Bound) (t : Bound) → t ≡ bound_node (one.Fun number arguments) → all ≡ arguments → some_again all ≡ beside t (again t)
  function_captured number arguments all t is same =
      let kind : BoundKind = one.Fun number arguments in
      ap some_again same
      ∙ sym (ap (λ u. beside u (again u)) is
      ∙ ap (beside (bound_node kind)) (node_again kind)
      ∙ tested-node (captured_step keys) kind (bound_node (kind_again kind))
      ∙ ap (λ (k : BoundKind). some_captured (map beside arguments) (arguments_here k)) (out-roll-Tree SheetMention NameMention (kind_again kind)))

  pub applied_captured : (x y : Bound) (arguments all : List Bound) (t : Bound) → t ≡ bound_node (one.Apply x arguments) → y ≡ x → all ≡ arguments → beside y (again y) ≡ false → some_again all ≡ beside t (again t)
  applied_captured x y arguments all t is first same none =
      let kind : BoundKind = one.Apply x arguments in
      ap some_again same
      ∙ sym (ap (λ u. beside u (again u)) is
      ∙ ap (beside (bound_node kind)) (node_again kind)
      ∙ tested-node (captured_step keys) kind (bound_node (kind_again kind))
      ∙ ap (λ (k : BoundKind). part_captured (beside x) (first_part k) || some_captured (map beside arguments) (arguments_here k)) (out-roll-Tree SheetMention NameMention (kind_again kind))
      ∙ ap (λ b. b || some_again arguments) (ap (λ u. beside u (again u)) (sym first) ∙ none))
