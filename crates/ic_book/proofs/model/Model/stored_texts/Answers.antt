use Rattle.std.proofs.Common.{◌≡◌, ◌+◌, ◌<◌, ◌∙◌, ap, map, option_map, subst, sym, take}
use Rattle.ic_workbooks.specs.Workbook.{stored_text}
use Rattle.ic_parts.proofs.CopyLemmas.{next_mapped, within}
use Rattle.ic_book.proofs.model.Model.stored_texts.Goals as goal
use Rattle.ic_book.proofs.model.Model.stored_texts.Goals.{in-Some+in_ok-stored_text+in_ok-push, in_default}

pub loop-index-preserved : goal.loop-index-preserved
loop-index-preserved c = elim c.match-get.branch as (λ b. c.match-get.out.items ≡ map (stored_text c.args.self.now.book) (take (c.loop-index.index + 1) c.args.sheet.now.pool.formulas)) [
  | in-Some+in_ok-stored_text+in_ok-push w ↦
      ap (λ v. v.items) w.out-is
      ∙ next_mapped (stored_text c.args.self.now.book) c.args.sheet.now.pool.formulas c.loop-index.out.items w.push.new.self.items c.loop-index.index w.in-Some.formula.now w.in_ok-stored_text.field-0
      (sym c.get.ensures ∙ ap (option_map (λ f. f.now)) w.in-Some.is) w.in_ok-stored_text.ensures c.loop-index.invariant w.in_ok-push.ensures.items
  | in_default w ↦
      absurd (within c.args.sheet.now.pool.formulas c.loop-index.index (subst (λ n. c.loop-index.index < n) c.len-index-end.ensures c.loop-index-test.true)
      (sym c.get.ensures ∙ ap (option_map (λ f. f.now)) w.in_default.is))
]
