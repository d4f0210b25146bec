use Rattle.std.proofs.Common.{◌≡◌, ◌<◌, get_or, length, rules, arith, slice_get, sym}
use Rattle.std.proofs.lemmas.List.{get_or_default}
use Rattle.std.specs.Option.{option_copied}
use Rattle.ic_dump.proofs.StandingLemmas.{named_next}
use Rattle.ic_dump.proofs.standing.push_named.Goals as goal

pub loop-index-preserved : goal.loop-index-preserved
loop-index-preserved c =
    let ids = c.args.ids.now in
    let names = c.args.names.now in
    let i = c.loop-index.index in
    let below : i < length ids = search (rules, arith) in
    let item : get_or ids i 0 ≡ get_or ids i (get_or ids i 0) = get_or_default ids i 0 _ below in
    let there : slice_get names i ≡ option_copied c.name_at.result = sym c.name_at.ensures in
    record {
      sheets = named_next ids names i (get_or ids i 0) (option_copied c.name_at.result) c.loop-index.standing.sheets.items c.push_if_named.new.standing.sheets.items _ below item there c.loop-index.invariant.sheets c.in_ok-push_if_named.ensures.sheets;
      found = c.in_ok-push_if_named.ensures.found;
    }
