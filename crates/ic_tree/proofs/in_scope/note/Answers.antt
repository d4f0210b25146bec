use Rattle.std.proofs.Common.{◌∙◌, sym, string_bytes}
use Rattle.ic_tree.proofs.ScopeLemmas.{noted}
use Rattle.ic_tree.proofs.in_scope.note.Goals as goal

pub returns-clause-ok : goal.returns-clause-ok
returns-clause-ok c =
    noted c.args.places.now c.insert.new.self (string_bytes c.args.key) c.as_str.result.now c.args.place c.in_ok-insert.ensures.updates c.as_str.ensures.value
    (sym c.contains_key.ensures ∙ c.if-contains_key.false)
