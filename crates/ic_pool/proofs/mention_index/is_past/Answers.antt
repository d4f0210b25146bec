use Rattle.std.proofs.Common.{◌-◌, length, sym}
use Rattle.std.proofs.lemmas.Bool.{ltb-true}
use Rattle.std.proofs.lemmas.Option.{get_or_from_slice_get}
use Rattle.ic_pool.proofs.MergeLemmas.{put_last}
use Rattle.ic_pool.proofs.mention_index.is_past.Goals as goal

pub returns-in-Some : goal.returns-in-Some
returns-in-Some c =
    λ past. put_last c.args.places.now c.in-Some.last.now c.args.place c.requires
    (sym (get_or_from_slice_get c.args.places.now (length c.args.places.now - 1) c.in-Some.last.now 0 (sym c.in-Some.ensures.value)))
    (ltb-true c.in-Some.last.now c.args.place past)
