use Rattle.ic_tables.proofs.OrderLemmas.{put_first}
use Rattle.ic_tables.proofs.order.put_first.Goals as goal

pub returns : goal.returns
returns c =
    put_first _ _ _ c.place_of-place.result _ _ _ c.as_slice.ensures.value c.in_ok-insert.ensures.items c.in_ok-folded.ensures c.requires
    c.place_of-place.ensures.before c.place_of-place.ensures.after
