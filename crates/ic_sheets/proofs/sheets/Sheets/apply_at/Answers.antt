use Rattle.std.proofs.Common.{◌<◌, ◌∙◌, ap, get_or, sym, subst, length, refl, slice_set, vec_capacity, arith}
use Rattle.std.proofs.lemmas.Option.{slice_get_read}
use Rattle.std.specs.List.{AllByRecursion}
use Rattle.std.specs.Prelude.{IfSome}
use Rattle.ic_laws.specs.CoreStep.{updated_at}
use Rattle.ic_pool.specs.Rewrites.{FitsPool}
use Rattle.ic_pool.specs.declared.pool.rewrites.Replacement.{Replacement}
use Rattle.ic_sheets.proofs.HolderLemmas.{held_like}
use Rattle.ic_sheets.proofs.DanglingLemmas.{dangling_over, length_over, listed_at, room_at}
use Rattle.ic_sheets.proofs.IndexLemmas.{read_boxed, set_updated}
use Rattle.ic_sheets.proofs.MentionerLemmas.{all_changed, known_over, known_there, pool_kept}
use Rattle.ic_sheets.proofs.PlaceLemmas.{placed_same}
use Rattle.ic_sheets.proofs.RewritingLemmas.{filled}
use Rattle.ic_sheets.proofs.WriteLemmas.{IsLike, kept_over, seen_over}
use Rattle.ic_sheets.specs.Mentioners.{KnowsFormula, KnowsPool}
use Rattle.ic_sheets.specs.Rewriting.{with_rewrites}
use Rattle.ic_sheets.specs.declared.sheet.Sheet.{Sheet}
use Rattle.ic_sheets.proofs.sheets.Sheets.apply_at.Goals as goal

pub apply-requires : goal.apply-requires
apply-requires c =
    let s = c.as_mut-sheet.result.now in
    subst (λ o. IfSome o (λ (s : Sheet). FitsPool c.args.rewrites s.pool.formulas))
    (slice_get_read c.args.self.now (length c.args.self.now) c.args.index s refl c.requires.within ((read_boxed c.self.inside.list.items c.args.index c.as_mut-sheet.ensures.value c.index_mut.ensures.value) ∙ ap (λ xs. get_or xs c.args.index s) c.self.view_is)) c.requires.fits

pub invariant_of-self : goal.invariant_of-self
invariant_of-self c =
    let s = c.as_mut-sheet.result.now in
    let sheets = c.self.inside.list.items in
    let after : Sheet = record s { pool = c.apply.new.self } in
    let before = c.self.inside.mentioners in
    let now = c.note_changes.new.self in
    let read = (read_boxed c.self.inside.list.items c.args.index c.as_mut-sheet.ensures.value c.index_mut.ensures.value) in
    let lt : c.args.index < length sheets = subst (λ xs. c.args.index < length xs) (sym c.self.view_is) c.requires.within in
    let like : IsLike s after = record { id = refl; name = refl } in (
      kept_over c.self.inside.greatest sheets c.args.index s after c.self.invariant.0 read like,
      placed_same c.self.inside.indexes sheets _ c.self.invariant.1 (seen_over (λ (x : Sheet). x.id) sheets c.args.index s after read refl),
      dangling_over c.self.inside.dangling.items sheets c.args.index s c.self.invariant.2 c.self.invariant.0.ids_differ lt read c.settle.new.ids.items c.dangles.result c.settle.ensures.finds c.settle.ensures.differ after refl c.dangles.ensures,
      omega (arith, c.settle.ensures.capacity, c.self.invariant.3, length_over sheets c.args.index after),
      known_over before now sheets c.args.index after c.self.invariant.4 c.note_changes.ensures.kept
          (subst (KnowsPool now s.id) (sym c.apply.ensures.formulas)
          (all_changed (KnowsFormula now s.id) c.args.rewrites.changes s.pool.formulas (pool_kept before now s.id c.note_changes.ensures.kept s.pool.formulas (known_there before sheets c.args.index s c.self.invariant.4 lt read))
          (subst (AllByRecursion (λ (change : Replacement). KnowsFormula now s.id change.formula)) c.changes.ensures c.note_changes.ensures.noted))),
      held_like c.self.inside.holders sheets c.args.index s after c.self.invariant.5 lt read refl refl,
    )

pub settle-requires-clause-was : goal.settle-requires-clause-was
settle-requires-clause-was c =
    let sheets = c.self.inside.list.items in
    let lt : c.args.index < length sheets = subst (λ xs. c.args.index < length xs) (sym c.self.view_is) c.requires.within in
    listed_at c.self.inside.dangling.items sheets c.args.index c.as_mut-sheet.result.now c.self.invariant.2 c.self.invariant.0.ids_differ lt (read_boxed c.self.inside.list.items c.args.index c.as_mut-sheet.ensures.value c.index_mut.ensures.value) ∙ sym c.dangles-was.ensures

pub settle-requires-clause-room : goal.settle-requires-clause-room
settle-requires-clause-room c clean =
    let sheets = c.self.inside.list.items in
    let lt : c.args.index < length sheets = subst (λ xs. c.args.index < length xs) (sym c.self.view_is) c.requires.within in
    subst (λ n. n < vec_capacity c.self.inside.dangling) (sym c.self.inside.dangling.ok.0)
    (room_at c.self.inside.dangling.items sheets c.args.index c.as_mut-sheet.result.now c.self.invariant.2 c.self.invariant.0.ids_differ lt (read_boxed c.self.inside.list.items c.args.index c.as_mut-sheet.ensures.value c.index_mut.ensures.value) (vec_capacity c.self.inside.dangling) c.self.invariant.3 (sym c.dangles-was.ensures ∙ clean))

pub returns : goal.returns
returns c =
    let s = c.as_mut-sheet.result.now in
    let sheets = c.self.inside.list.items in
    let w = c.args.rewrites in
    ap (slice_set sheets c.args.index) (filled w s s c.apply.new.self refl c.apply.ensures.formulas c.apply.ensures.whole) ∙ set_updated (with_rewrites w) sheets c.args.index s (read_boxed c.self.inside.list.items c.args.index c.as_mut-sheet.ensures.value c.index_mut.ensures.value)
    ∙ ap (updated_at (with_rewrites w) c.args.index) c.self.view_is
