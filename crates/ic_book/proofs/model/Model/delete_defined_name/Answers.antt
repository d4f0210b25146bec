use Rattle.std.proofs.Common.{chars}
use Rattle.ic_parts.proofs.DoesLemmas.{undefines}
use Rattle.ic_book.proofs.model.Model.delete_defined_name.Goals as goal

pub returns-clause-does : goal.returns-clause-does
returns-clause-does c =
    undefines c.undefine.result c.args.self.now c.undefine.new.self c.undefine.ensures.valid c.undefine.ensures.err (chars c.args.name.now) c.args.scope c.undefine.ensures.ok c.undefine.ensures.refused
