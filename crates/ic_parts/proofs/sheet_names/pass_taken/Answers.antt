use Rattle.std.proofs.Common.{arith, map, sym, ◌∙◌, rules}
use Rattle.ic_sheets.specs.declared.sheet.Sheet.{Sheet as HeldSheet}
use Rattle.ic_parts.specs.SheetNames.{name_with}
use Rattle.ic_parts.proofs.FreeNames.{taken_too}
use Rattle.ic_parts.proofs.sheet_names.pass_taken.Goals as goal

pub returns-then-not-taken-clause-passed : goal.returns-then-not-taken-clause-passed
returns-then-not-taken-clause-passed c = record {
  taken = c.loop-passed.invariant;
  within = search (rules, arith);
  next = λ less. sym c.in_ok-taken.ensures.taken ∙ c.if-not-taken.true;
}

pub loop-passed-preserved : goal.loop-passed-preserved
loop-passed-preserved c =
    taken_too (map (λ (s : HeldSheet). s.name) c.args.sheets.now) (name_with c.args.name.now) c.loop-passed.passed c.loop-passed.invariant
    (sym c.in_ok-taken.ensures.taken ∙ c.if-not-taken.false)
