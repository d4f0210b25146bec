use Rattle.std.proofs.Common.{ap, ◌∙◌}
use Rattle.std.specs.Prelude.{nat_eq}
use Rattle.ic_pool.specs.Pool.{is_among}
use Rattle.ic_pool.proofs.PlaceLemmas.{inserted_passes}
use Rattle.ic_pool.proofs.mention_index.Places.note.Goals as goal

pub returns-in_ok-insert-clause-kept : goal.returns-in_ok-insert-clause-kept
returns-in_ok-insert-clause-kept c = λ other e.
    ap (is_among other) c.in_ok-insert.ensures.items ∙ inserted_passes (nat_eq other) c.self.inside.list.items c.in-Some.index c.in-Ok.place (ap (is_among other) c.self.view_is ∙ e)
