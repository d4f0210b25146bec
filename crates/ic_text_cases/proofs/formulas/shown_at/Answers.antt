use Rattle.std.proofs.Common.{chars}
use Rattle.ic_tree.specs.laws.ShownLaws.{found_by_its_code}
use Rattle.ic_text_cases.proofs.formulas.shown_at.Goals as goal

pub new-requires-clause-language : goal.new-requires-clause-language
new-requires-clause-language c =
    found_by_its_code c.args.tables.now (chars c.args.language.now) c.in_ok-language.language.now c.in_ok-language.ensures.found
