use Rattle.std.proofs.Common.{ℕ, List, [], ◌∷◌, if◌then◌else◌, sym, ap}
use Rattle.std.specs.Str.{chars}
use Rattle.ic_laws.specs.Character.{equals}
use Rattle.ic_parts.proofs.translation.sign_of.Goals as goal

pub returns-then-has_equals : goal.returns-then-has_equals
unfolding chars
returns-then-has_equals c = sym (ap (λ b. let s : List ℕ = if b then equals ∷ [] else [] in s) c.if-has_equals.true)

pub returns-else-has_equals : goal.returns-else-has_equals
unfolding chars
returns-else-has_equals c = sym (ap (λ b. let s : List ℕ = if b then equals ∷ [] else [] in s) c.if-has_equals.false)
