-- The sheets that a tree names and that weren't found, by its parts.
use mathlib.Core.Path.{fun_ext}
use Rattle.std.proofs.Common.{◌≡◌, ℕ, List, ◌++◌, map, ap, ap₂, ◌∙◌, sym}
use Rattle.std.specs.Prelude.{flat_map}
use Rattle.ic_laws.proofs.binding.Again.{BoundKind, bound_node}
use Rattle.ic_laws.specs.Binding.{BoundPair}
use Rattle.ic_laws.specs.Tree.{Bound}
use Rattle.ic_laws.specs.declared.tree.LetPair.{fold-roll-LetPair}
use Rattle.ic_laws.specs.declared.tree.NameMention.{NameMention}
use Rattle.ic_laws.specs.declared.tree.SheetMention.{SheetMention}
use Rattle.ic_laws.specs.declared.tree.Tree.{fold-roll-Tree, map-Tree}
use Rattle.ic_laws.specs.declared.tree.Tree.TheOpen as one
use Rattle.ic_dump.specs.Passing.{unfound_in, unfound_step}

abbrev Names : Type 0
Names = List (List ℕ)

abbrev unfound_below : BoundKind → Names
unfound_below kind = unfound_step (map-Tree SheetMention NameMention Bound BoundPair Names Names unfound_in (λ pair. unfound_in pair.value) kind)

unfound_node : (kind : BoundKind) → unfound_in (bound_node kind) ≡ unfound_below kind
unfound_node kind =
    fold-roll-Tree SheetMention NameMention Names Names unfound_step (λ pair. pair.value) kind
    ∙ ap (λ (g : BoundPair → Names). unfound_step (map-Tree SheetMention NameMention Bound BoundPair Names Names unfound_in g kind))
    (fun_ext (λ pair. fold-roll-LetPair SheetMention NameMention Names Names unfound_step (λ p. p.value) (record { variable = pair.variable; value = pair.value })))

pub let_unfound : (pairs ps : List BoundPair) (body b tree : Bound) → tree ≡ bound_node (one.Let pairs body) → ps ≡ pairs → b ≡ body
    → flat_map (λ ns. ns) (map (λ pair. unfound_in pair.value) ps) ++ unfound_in b ≡ unfound_in tree
let_unfound pairs ps body b tree is first second =
    ap₂ (λ (qs : List BoundPair) (t : Bound). flat_map (λ ns. ns) (map (λ pair. unfound_in pair.value) qs) ++ unfound_in t) first second
    ∙ sym (ap unfound_in is ∙ unfound_node (one.Let pairs body))

pub apply_unfound : (x y : Bound) (arguments all : List Bound) (tree : Bound) → tree ≡ bound_node (one.Apply x arguments) → y ≡ x → all ≡ arguments
    → unfound_in y ++ flat_map (λ ns. ns) (map unfound_in all) ≡ unfound_in tree
apply_unfound x y arguments all tree is first second =
    ap₂ (λ (t : Bound) (ts : List Bound). unfound_in t ++ flat_map (λ ns. ns) (map unfound_in ts)) first second
    ∙ sym (ap unfound_in is ∙ unfound_node (one.Apply x arguments))
