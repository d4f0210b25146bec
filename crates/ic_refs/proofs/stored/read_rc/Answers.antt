use Rattle.std.proofs.Common.{◌≡◌}
use Rattle.std.proofs.lemmas.Result.{IfOk-weaker}
use Rattle.ic_refs.specs.Longest.{FindsLongestAt, read_at}
use Rattle.ic_refs.specs.Sheet.{reference_at}
use Rattle.ic_refs.specs.Stored.{SpellsStored, stored_place_at}
use Rattle.ic_refs.proofs.StoredReferenceLemmas.{finds_stored_at}
use Rattle.ic_refs.proofs.stored.read_rc.Goals as goal

pub returns-clause-longest : goal.returns-clause-longest
returns-clause-longest c =
    IfOk-weaker c.read_stored.result (λ found. found ≡ read_at (reference_at stored_place_at) c.args.text.now c.args.at) (λ found. FindsLongestAt SpellsStored c.args.text.now c.args.at found)
    (λ found e. finds_stored_at c.args.text.now c.args.at found c.utf8.text e) c.read_stored.ensures
