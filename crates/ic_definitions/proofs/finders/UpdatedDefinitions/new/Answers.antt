use Rattle.std.proofs.Common.{chars, refl, sym, true, ◌∙◌}
use Rattle.ic_definitions.proofs.RenamedLemmas.{renamed_name}
use Rattle.ic_definitions.proofs.finders.UpdatedDefinitions.new.Goals as goal

pub invariant_of-result-clause-found : goal.invariant_of-result-clause-found
invariant_of-result-clause-found c = λ e.
    renamed_name c.args.key.now c.args.index c.args.definitions.definitions.now (chars c.args.name.now) c.args.key.now c.place_of.result true _ c.requires c.place_of.ensures.differ c.place_of.ensures.place
    (sym e ∙ c.is_found-has_key.ensures) refl
