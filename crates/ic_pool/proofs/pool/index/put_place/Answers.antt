use Rattle.std.proofs.Common.{ap, sym, ◌∙◌}
use Rattle.std.specs.Prelude.{option_map}
use Rattle.ic_pool.specs.LookUp.{found}
use Rattle.ic_pool.proofs.FoundLemmas.{put_found, stands_itself}
use Rattle.ic_pool.proofs.LateLemmas.{put_before_it, put_in_place, put_nothing}
use Rattle.ic_pool.proofs.pool.index.put_place.Goals as goal

pub returns-in_default-clause-ok : goal.returns-in_default-clause-ok
returns-in_default-clause-ok c = λ late knows.
    put_nothing (found c.args.index.now c.args.formulas.now) c.args.at c.args.formulas.now late knows (sym c.formula_in.ensures ∙ ap (option_map (λ f. f.now)) c.in_default.is)

pub returns-then-branch-clause-ok : goal.returns-then-branch-clause-ok
returns-then-branch-clause-ok c = λ late knows.
    put_before_it (found c.args.index.now c.args.formulas.now) c.args.at c.args.formulas.now late knows c.in-Some.formula.now (sym c.in-Some.ensures) c.in_ok-key.key c.in_ok-key.ensures c.in_ok-is_before.field-0 c.in_ok-is_before.ensures c.if-branch.true

pub returns-clause-ok : goal.returns-clause-ok
returns-clause-ok c = λ late knows.
    put_in_place (found c.args.index.now c.args.formulas.now) c.args.at c.args.formulas.now late knows c.in-Some.formula.now (sym c.in-Some.ensures) c.in_ok-key.key c.in_ok-key.ensures c.in_ok-is_before.field-0 c.in_ok-is_before.ensures c.if-branch.false
    (found c.put.new.self c.args.formulas.now)
    (put_found c.args.index.now c.put.new.self c.args.formulas.now c.args.formulas.now c.in-Some.formula.now c.in_ok-key.key c.args.at c.requires (sym c.in-Some.ensures) c.in_ok-key.ensures (stands_itself c.args.formulas.now) c.in_ok-put.ensures.ok)
