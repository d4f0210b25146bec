use Rattle.std.proofs.Common.{◌≡◌, ◌<◌, ◌∙◌, ℕ, ap, sym, subst, cond, nat_eq, length, slice_set, vec_capacity, arith}
use Rattle.ic_laws.specs.CoreStep.{updated_at}
use Rattle.ic_sheets.proofs.HolderLemmas.{held_over}
use Rattle.ic_sheets.proofs.DanglingLemmas.{dangling_over, length_over, listed_at, room_at}
use Rattle.ic_sheets.proofs.IndexLemmas.{read_boxed, set_updated}
use Rattle.ic_sheets.proofs.MentionerLemmas.{known_over}
use Rattle.ic_sheets.proofs.PlaceLemmas.{placed_same}
use Rattle.ic_sheets.proofs.WriteLemmas.{IsLike, kept_over, seen_over}
use Rattle.ic_sheets.specs.Index.{is_listed}
use Rattle.ic_sheets.specs.declared.sheet.Sheet.{Sheet}
use Rattle.ic_sheets.proofs.sheets.Sheets.fill.Goals as goal

pub invariant_of-self : goal.invariant_of-self
invariant_of-self c =
    let s = c.as_mut-sheet.result.now in
    let sheets = c.self.inside.list.items in
    let after : Sheet = c.fill.new.self in
    let lt : c.args.index < length sheets = subst (λ xs. c.args.index < length xs) (sym c.self.view_is) c.requires in
    let like : IsLike s after = record { id = ap (λ (x : Sheet). x.id) c.fill.ensures; name = ap (λ (x : Sheet). x.name) c.fill.ensures } in (
      kept_over c.self.inside.greatest sheets c.args.index s after c.self.invariant.0 (read_boxed c.self.inside.list.items c.args.index c.as_mut-sheet.ensures.value c.index_mut.ensures.value) like,
      placed_same c.self.inside.indexes sheets _ c.self.invariant.1 (seen_over (λ (x : Sheet). x.id) sheets c.args.index s after (read_boxed c.self.inside.list.items c.args.index c.as_mut-sheet.ensures.value c.index_mut.ensures.value) like.id),
      dangling_over c.self.inside.dangling.items sheets c.args.index s c.self.invariant.2 c.self.invariant.0.ids_differ lt (read_boxed c.self.inside.list.items c.args.index c.as_mut-sheet.ensures.value c.index_mut.ensures.value) c.settle.new.ids.items c.dangles.result
          (subst (λ (k : ℕ). (q : ℕ) → is_listed q c.settle.new.ids.items ≡ cond (nat_eq q k) c.dangles.result (is_listed q c.self.inside.dangling.items)) like.id c.settle.ensures.finds) c.settle.ensures.differ after like.id c.dangles.ensures,
      omega (arith, c.settle.ensures.capacity, c.self.invariant.3, length_over sheets c.args.index after),
      known_over c.self.inside.mentioners c.note_from.new.self sheets c.args.index after c.self.invariant.4 c.note_from.ensures.kept c.note_from.ensures.noted,
      held_over c.self.inside.holders c.note.new.self sheets c.args.index after c.self.invariant.5 c.note.ensures.kept c.note.ensures.noted,
    )

pub settle-requires-clause-was : goal.settle-requires-clause-was
settle-requires-clause-was c =
    let s = c.as_mut-sheet.result.now in
    let sheets = c.self.inside.list.items in
    let lt : c.args.index < length sheets = subst (λ xs. c.args.index < length xs) (sym c.self.view_is) c.requires in
    ap (λ (x : Sheet). is_listed x.id c.self.inside.dangling.items) c.fill.ensures ∙ listed_at c.self.inside.dangling.items sheets c.args.index s c.self.invariant.2 c.self.invariant.0.ids_differ lt (read_boxed c.self.inside.list.items c.args.index c.as_mut-sheet.ensures.value c.index_mut.ensures.value) ∙ sym c.dangles-was.ensures

pub settle-requires-clause-room : goal.settle-requires-clause-room
settle-requires-clause-room c clean =
    let sheets = c.self.inside.list.items in
    let lt : c.args.index < length sheets = subst (λ xs. c.args.index < length xs) (sym c.self.view_is) c.requires in
    subst (λ n. n < vec_capacity c.self.inside.dangling) (sym c.self.inside.dangling.ok.0)
    (room_at c.self.inside.dangling.items sheets c.args.index c.as_mut-sheet.result.now c.self.invariant.2 c.self.invariant.0.ids_differ lt (read_boxed c.self.inside.list.items c.args.index c.as_mut-sheet.ensures.value c.index_mut.ensures.value) (vec_capacity c.self.inside.dangling) c.self.invariant.3 (sym c.dangles-was.ensures ∙ clean))

pub returns : goal.returns
returns c =
    let s = c.as_mut-sheet.result.now in
    let put : Sheet → Sheet = λ x. record x { pool = c.args.pool; grid = c.args.grid; tab = c.args.tab } in
    ap (slice_set c.self.inside.list.items c.args.index) c.fill.ensures ∙ set_updated put c.self.inside.list.items c.args.index s (read_boxed c.self.inside.list.items c.args.index c.as_mut-sheet.ensures.value c.index_mut.ensures.value) ∙ ap (updated_at put c.args.index) c.self.view_is
