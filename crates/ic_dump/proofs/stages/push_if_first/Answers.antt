use Rattle.std.proofs.Common.{◌++◌, ◌∷◌, [], ◌∙◌, ap}
use Rattle.ic_dump.proofs.StageLemmas.{named_first}
use Rattle.ic_dump.proofs.stages.push_if_first.Goals as goal

pub returns-in_ok-push : goal.returns-in_ok-push
returns-in_ok-push c =
    named_first c.args.sheet.now c.args.lines.now.items c.push.new.self.items c.if-sheet-eq-FIRST_ID.true
    (c.in_ok-push.ensures.items ∙ ap (λ line. c.args.lines.now.items ++ line ∷ []) (c.in_ok-naming_line.ensures c.args.sheet.now c.as_str.ensures.characters))
