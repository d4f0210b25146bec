use Rattle.std.proofs.Common.{[], sym, ◌∙◌}
use Rattle.ic_refs.proofs.FormulaFormLemmas.{whole_some}
use Rattle.ic_parts.proofs.definitions.body.reference_in.Goals as goal

pub new-place-requires : goal.new-place-requires
new-place-requires g c =
    c.requires _ [] c.in-Some.reference (whole_some _ c.in-Some.reference (sym c.in_ok-reference.ensures ∙ c.in-Some.is))
