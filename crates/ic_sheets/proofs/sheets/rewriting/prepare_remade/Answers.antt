use Rattle.std.proofs.Common.{ap, get_or, option_map, refl, sym, Some, Vec, Global, ℕ, ◌∙◌}
use Rattle.std.specs.List.{AllByRecursion}
use Rattle.ic_pool.specs.Remade.{LeavesUntouched}
use Rattle.ic_pool.specs.declared.pool.rewrites.Rewrites.{Rewrites}
use Rattle.ic_sheets.proofs.MakesLemmas.{each_more, found_all, some_sheet}
use Rattle.ic_sheets.specs.Remade.{IsRemade}
use Rattle.ic_sheets.specs.declared.sheet.Sheet.{Sheet}
use Rattle.ic_sheets.proofs.sheets.rewriting.prepare_remade.Goals as goal
use Rattle.ic_sheets.proofs.sheets.rewriting.prepare_remade.Goals.{in-Some+in_ok-rewrites+in_ok-push, in_default}

pub prepare_remade-requires : goal.prepare_remade-requires
prepare_remade-requires g c =
    let rule = g.R.Remaking.made c.args.remaking.now in
    found_all (λ (s : Sheet). AllByRecursion (LeavesUntouched rule (Some s.id)) s.pool.formulas) _ c.args.sheets.now c.in-Some.sheet.now (sym (c.sheet_with.ensures c.requires.placed) ∙ ap (option_map (λ s. s.now)) c.in-Some.is) c.requires.leaves

pub loop-id-preserved : goal.loop-id-preserved
loop-id-preserved g c =
    let id = get_or c.args.ids.now c.loop-id.id-index 0 in
    let found = sym (c.sheet_with.ensures c.requires.placed) in
    elim c.match-sheet_with.branch [
      | in-Some+in_ok-rewrites+in_ok-push w ↦
          each_more (IsRemade (g.R.Remaking.made c.args.remaking.now)) c.loop-id.prepared.items id w.in_ok-rewrites.rewrites c.args.sheets.now w.in-Some.sheet.now
          (found ∙ ap (option_map (λ s. s.now)) w.in-Some.is)
          (record { made = w.in_ok-rewrites.ensures.made; listed = w.in_ok-rewrites.ensures.listed; fits = w.in_ok-rewrites.ensures.fits })
          c.match-sheet_with.prepared.items c.args.ids.now c.loop-id.id-index c.loop-id.invariant c.loop-id-test.true refl
          (ap (λ (v : Vec (ℕ × Rewrites) Global). v.items) w.prepared-is ∙ w.in_ok-push.ensures.items)
      | in_default w ↦ absurd (some_sheet c.args.ids.now c.loop-id.id-index id c.args.sheets.now c.requires.known c.loop-id-test.true refl (found ∙ ap (option_map (λ s. s.now)) w.in_default.is))
    ]
