use Rattle.std.proofs.Common.{Option, List, ℕ, chars, ap, ap₂, ◌++◌, ◌∙◌}
use Rattle.std.proofs.lemmas.Str.{chars-nil}
use Rattle.ic_laws.specs.Dialect.{reference_text}
use Rattle.ic_laws.specs.declared.reference.RefToken.{RefToken}
use Rattle.ic_laws.proofs.dialect.Dialect.spell_ref.Goals as goal

pub returns : goal.returns
returns g c =
    c.in_ok-push_ref.ensures
    ∙ ap₂ ◌++◌ (ap chars c.new-text.ensures.bytes ∙ chars-nil)
    (ap (λ (sheet : Option (List ℕ)). let r : RefToken = record { sheet = sheet; place = c.args.r.now.place } in reference_text (g.Self.Dialect.meaning c.args.self.now) r) c.lent_name.ensures)
