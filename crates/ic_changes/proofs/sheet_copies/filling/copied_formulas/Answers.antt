use Rattle.std.proofs.Common.{◌≡◌, ◌+◌, ◌<◌, ◌∙◌, ap, map, option_map, subst, sym, take}
use Rattle.std.specs.Prelude.{Some}
use Rattle.ic_keep.specs.Copy.{copied_for}
use Rattle.ic_tree.specs.LanguageWords.{function_of}
use Rattle.ic_parts.proofs.CopyLemmas.{next_mapped, within}
use Rattle.ic_changes.proofs.sheet_copies.filling.copied_formulas.Goals as goal
use Rattle.ic_changes.proofs.sheet_copies.filling.copied_formulas.Goals.{in-Some+in_ok-keep_copy_formula+in_ok-push, in_default}

pub loop-index-preserved : goal.loop-index-preserved
loop-index-preserved g c =
    let made = copied_for (function_of c.args.english.now) (g.A.Finder.scene c.args.after.now) c.args.source.now.id c.args.copy (Some c.args.copy) in
    elim c.match-get.branch as (λ b. c.match-get.out.items ≡ map made (take (c.loop-index.index + 1) c.args.source.now.pool.formulas)) [
      | in-Some+in_ok-keep_copy_formula+in_ok-push w ↦
          ap (λ v. v.items) w.out-is
          ∙ next_mapped made c.args.source.now.pool.formulas c.loop-index.out.items w.push.new.self.items c.loop-index.index w.in-Some.formula.now w.in_ok-keep_copy_formula.field-0
          (sym c.get.ensures ∙ ap (option_map (λ f. f.now)) w.in-Some.is) w.in_ok-keep_copy_formula.ensures c.loop-index.invariant w.in_ok-push.ensures.items
      | in_default w ↦
          absurd (within c.args.source.now.pool.formulas c.loop-index.index (subst (λ n. c.loop-index.index < n) c.len-index-end.ensures c.loop-index-test.true)
          (sym c.get.ensures ∙ ap (option_map (λ f. f.now)) w.in_default.is))
    ]
