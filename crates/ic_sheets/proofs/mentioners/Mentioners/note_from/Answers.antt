use Rattle.std.proofs.Common.{◌≡◌, ◌∙◌, ◌+◌, ◌<◌, Some, ap, drop, option_map, subst, sym, take}
use Rattle.std.specs.List.{slice_get}
use Rattle.ic_sheets.specs.Mentioners.{KnowsFormula, KnowsPool}
use Rattle.ic_sheets.proofs.MentionerLemmas.{known_further, not_there, pool_kept}
use Rattle.ic_sheets.proofs.mentioners.Mentioners.note_from.Goals as goal
use Rattle.ic_sheets.proofs.mentioners.Mentioners.note_from.Goals.{in-Some, in_default}

pub loop-at-preserved : goal.loop-at-preserved
loop-at-preserved c =
    let id = c.args.id in
    let before = c.loop-at.self in
    let formulas = c.args.pool.now.formulas in
    let at = c.loop-at.at in
    elim c.match-get.branch [
      | in-Some w ↦
          let after = w.note.new.self in
          let there : slice_get formulas at ≡ Some w.in-Some.formula.now = sym c.get.ensures ∙ ap (option_map (λ f. f.now)) w.in-Some.is in
          let noted = known_further (KnowsFormula after id) formulas c.args.from at w.in-Some.formula.now there (pool_kept before after id w.note.ensures.kept (drop c.args.from (take at formulas)) c.loop-at.invariant.noted) w.note.ensures.noted in
          record {
            noted = subst (λ m. KnowsPool m id (drop c.args.from (take (at + 1) formulas))) (sym w.self-is) noted;
            kept = λ q formula known. subst (λ m. KnowsFormula m q formula) (sym w.self-is) (w.note.ensures.kept q formula (c.loop-at.invariant.kept q formula known));
          }
      | in_default w ↦ absurd (not_there formulas at (sym c.get.ensures ∙ ap (option_map (λ f. f.now)) w.in_default.is) (subst (λ n. at < n) c.len-at-end.ensures c.loop-at-test.true))
    ]
