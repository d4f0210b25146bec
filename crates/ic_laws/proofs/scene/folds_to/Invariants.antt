use Rattle.std.proofs.Common.{◌≡◌, bytes_eq, chars, length}
use denote.Shadow.{shadow}
use denote.Text.{Utf8}
use Rattle.ic_laws.specs.Name.{fold}
use Rattle.ic_laws.proofs.scene.folds_to.Given as goal

-- what is left of both decides
abbrev pub invariant-loop-c : goal.invariant-loop-c
invariant-loop-c l =
    shadow (Utf8 l.left) × shadow (Utf8 l.rest) × (bytes_eq (fold (chars l.left)) (chars l.rest) ≡ bytes_eq (fold (chars l.name)) (chars l.folded))

abbrev pub decreases-loop-c : goal.decreases-loop-c
decreases-loop-c l = length l.left
