use Rattle.std.proofs.Common.{ℕ, List, ap, ap₂, ◌++◌, ◌∙◌}
use Rattle.std.specs.Prelude.{flat_map, map}
use Rattle.std.specs.Str.{chars}
use Rattle.ic_machine.specs.subjects.Notation.{as_code, plain_blank}
use Rattle.ic_parts.proofs.settings.currency_code.Goals as goal

pub returns : goal.returns
unfolding chars
returns c =
    c.from.ensures ∙ c.in_ok-push_plain.ensures ∙ ap (λ b. chars b ++ map plain_blank (chars c.as_str-2.result.now)) c.new-plain.ensures.bytes
    ∙ ap (λ b. map plain_blank (chars b)) c.as_str-2.ensures.value
    ∙ ap (λ (cs : List ℕ). map plain_blank cs)
    (c.in_ok-push_code.ensures ∙ ap (λ b. chars b ++ flat_map (as_code (chars c.as_str.result.now)) (chars c.as_str-format.result.now)) c.new-code.ensures.bytes
    ∙ ap₂ (λ (symbol format : List ℕ). flat_map (as_code symbol) format) c.as_str.ensures.characters c.as_str-format.ensures.characters)
