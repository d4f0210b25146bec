use Rattle.std.proofs.Common.{◌≡◌, ◌++◌, Some, chars, string_bytes, ap, ◌∙◌}
use Rattle.std.proofs.lemmas.Result.{IfOk-weaker}
use Rattle.ic_refs.specs.Sheet.{reference_at}
use Rattle.ic_refs.specs.Stored.{stored_place_at, stored_text}
use Rattle.ic_refs.proofs.StoredReferenceLemmas.{stored_spelled}
use Rattle.ic_refs.proofs.stored_text.spell_rc.Goals as goal

pub returns-clause-again : goal.returns-clause-again
returns-clause-again c = λ spellable rest end.
    IfOk-weaker c.spelled_reference.result (λ text. chars (string_bytes text) ≡ stored_text c.args.r.now)
    (λ text. reference_at stored_place_at (chars (string_bytes text) ++ rest) ≡ Some (c.args.r.now, rest))
    (λ text e. ap (λ t. reference_at stored_place_at (t ++ rest)) e ∙ stored_spelled c.args.r.now rest spellable end) c.spelled_reference.ensures
