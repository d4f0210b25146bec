use Rattle.std.proofs.Common.{chars}
use Rattle.ic_parts.proofs.DoesLemmas.{checks}
use Rattle.ic_book.proofs.model.Model.is_valid_defined_name.Goals as goal

pub returns : goal.returns
returns c = record {
  does =
      checks c.args.self.now c.scope_to_define.ensures.valid c.scope_to_define.result (chars c.args.name.now) c.args.scope (chars c.args.formula.now) c.scope_to_define.ensures.id c.scope_to_define.ensures.refused;
}
