use Rattle.std.proofs.Common.{None, Some, chars, sym, ◌∙◌}
use Rattle.std.proofs.lemmas.Result.{IfOk-weaker}
use Rattle.ic_laws.specs.Name.{fold}
use Rattle.ic_laws.specs.Scene.{key_of}
use Rattle.ic_definitions.proofs.FindingLemmas.{found_joined}
use Rattle.ic_definitions.proofs.finders.BothDefinitions.key_at.Goals as goal

pub returns-in-Some : goal.returns-in-Some
returns-in-Some c =
    let b = c.args.self.now in found_joined key_of b.first.definitions.now b.more.definitions.now (fold (chars c.args.word.now)) c.args.scope (Some c.in-Some.key) (sym c.in-Some.is ∙ c.in_ok-key.ensures)

pub returns : goal.returns
returns c =
    let b = c.args.self.now in
    IfOk-weaker c.key_at-2.result _ _ (λ key e. e ∙ found_joined key_of b.first.definitions.now b.more.definitions.now (fold (chars c.args.word.now)) c.args.scope None (sym c.in_default.is ∙ c.in_ok-key.ensures)) c.key_at-2.ensures
