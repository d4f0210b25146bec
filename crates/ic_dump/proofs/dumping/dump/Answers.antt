use Rattle.ic_dump.proofs.RebuildLemmas.{lines_rebuild}
use Rattle.ic_dump.proofs.dumping.dump.Goals as goal

pub returns-clause-rebuilds : goal.returns-clause-rebuilds
returns-clause-rebuilds c =
    lines_rebuild c.args.model.now.book c.in_ok-lines.lines.items c.english_of-english.ensures.valid c.in_ok-refuse.ensures c.in_ok-lines.ensures.few c.in_ok-lines.ensures.lines
