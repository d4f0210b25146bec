use Rattle.std.proofs.Common.{ap}
use Rattle.ic_lines.specs.Reading.{Reading}
use Rattle.ic_lines.proofs.WholeLemmas.{held_all}
use Rattle.ic_lines.proofs.whole.read_all.Goals as goal

pub returns-clause-all : goal.returns-clause-all
returns-clause-all g c =
    let e = c.in_ok-fill_all.ensures in
    held_all c.new-reader.result c.fill_all.new.self _ _ c.new-reader.ensures e.kept c.into_held.result.items c.into_held.ensures e.ok
    (e.ends (ap (λ (r : Reading). r.ended) c.new-reader.ensures))
