use Rattle.std.proofs.Common.{ap, codes, ◌∙◌}
use Rattle.std.specs.Option.{option_map_or}
use Rattle.ic_machine.specs.Refusal.{refusal_name}
use Rattle.ic_commands.proofs.AnswerLemmas.{tells}
use Rattle.ic_commands.proofs.told.refused.Goals as goal

pub returns-in_default : goal.returns-in_default
returns-in_default c =
    let t = tells c.args.e.now c.in_default.not-OutOfMemory in
    record { ok = (t.0, t.1, c.error_reply.ensures.refusal t.0 (c.name.ensures ∙ ap (λ o. option_map_or refusal_name o (codes "OutOfMemory")) t.1)); err = tt }
