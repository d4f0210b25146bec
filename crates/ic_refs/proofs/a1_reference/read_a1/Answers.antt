use Rattle.std.proofs.Common.{w32}
use Rattle.std.proofs.lemmas.Int.{to_z-of_z}
use Rattle.std.proofs.lemmas.Result.{IfOk-weaker}
use Rattle.ic_refs.proofs.A1ReferenceLemmas.{longest_at}
use Rattle.ic_refs.proofs.a1_reference.read_a1.Goals as goal

pub returns-clause-longest : goal.returns-clause-longest
returns-clause-longest c =
    IfOk-weaker c.read_in_cell.result _ _
    (λ found e. longest_at c.args.row c.args.column _ _ c.args.text.now c.args.at found (to_z-of_z w32 c.args.row c.ranges.row) (to_z-of_z w32 c.args.column c.ranges.column) c.utf8.text e)
    c.read_in_cell.ensures
