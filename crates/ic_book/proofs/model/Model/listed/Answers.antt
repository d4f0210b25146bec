use Rattle.std.proofs.Common.{List, ℕ, ap, ap₂, ◌∙◌, ◌++◌}
use Rattle.std.specs.Str.{chars}
use Rattle.ic_parts.specs.Definitions.{Listed}
use Rattle.ic_book.proofs.model.Model.listed.Goals as goal

pub returns : goal.returns
unfolding chars
returns c =
    ap₂ (λ (name body : List ℕ). let item : Listed = (name, c.args.scope, body) in item)
    (c.in_ok-push_text.ensures.ok ∙ ap (λ b. chars b ++ chars c.name.result.now) c.new-name.ensures.bytes ∙ c.name.ensures) c.in_ok-body.ensures
