use Rattle.std.proofs.Common.{chars}
use Rattle.ic_parts.proofs.DoesLemmas.{defines}
use Rattle.ic_book.proofs.model.Model.new_defined_name.Goals as goal

pub returns-clause-does : goal.returns-clause-does
returns-clause-does c =
    defines c.define.result c.args.self.now c.define.new.self c.define.ensures.valid c.define.ensures.err (chars c.args.name.now) c.args.scope (chars c.args.formula.now) c.define.ensures.ok c.define.ensures.refused
