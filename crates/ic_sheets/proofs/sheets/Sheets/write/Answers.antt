use Rattle.std.proofs.Common.{◌≡◌, ◌<◌, ◌∙◌, ℕ, ap, sym, subst, cond, nat_eq, length, vec_capacity, arith}
use Rattle.std.proofs.lemmas.Result.{on_err_weaker, on_ok_weaker}
use Rattle.ic_sheets.proofs.HolderLemmas.{held_over}
use Rattle.ic_sheets.proofs.IndexLemmas.{read_boxed}
use Rattle.ic_sheets.proofs.DanglingLemmas.{dangling_over, length_over, listed_at, room_at}
use Rattle.ic_sheets.proofs.MentionerLemmas.{begins_written, known_written}
use Rattle.ic_sheets.proofs.PlaceLemmas.{placed_same}
use Rattle.ic_sheets.specs.Index.{is_listed}
use Rattle.ic_sheets.specs.declared.sheet.Sheet.{Sheet}
use Rattle.ic_sheets.proofs.WriteLemmas.{kept_over, like_written, seen_over, looked_up_at, sheets_as_before, takes_at, writes_at}
use Rattle.ic_cells.proofs.MapLemmas.{stored_pair}
use Rattle.ic_sheets.proofs.sheets.Sheets.write.Goals as goal

pub invariant_of-self : goal.invariant_of-self
invariant_of-self c =
    let s = c.as_mut-sheet.result.now in
    let sheets = c.self.inside.list.items in
    let lt : c.args.index < length sheets = subst (λ xs. c.args.index < length xs) (sym c.self.view_is) c.requires.within in
    let like = like_written c.args.formula c.args.kind c.args.style _ s c.write-written.new.self c.write-written.result c.write-written.ensures.ok c.write-written.ensures.err in (
      kept_over c.self.inside.greatest sheets c.args.index s c.write-written.new.self c.self.invariant.0 (read_boxed c.self.inside.list.items c.args.index c.as_mut-sheet.ensures.value c.index_mut.ensures.value) like,
      placed_same c.self.inside.indexes sheets _ c.self.invariant.1 (seen_over (λ (x : Sheet). x.id) sheets c.args.index s c.write-written.new.self (read_boxed c.self.inside.list.items c.args.index c.as_mut-sheet.ensures.value c.index_mut.ensures.value) like.id),
      dangling_over c.self.inside.dangling.items sheets c.args.index s c.self.invariant.2 c.self.invariant.0.ids_differ lt (read_boxed c.self.inside.list.items c.args.index c.as_mut-sheet.ensures.value c.index_mut.ensures.value) c.settle.new.ids.items c.dangles.result
          (subst (λ (k : ℕ). (q : ℕ) → is_listed q c.settle.new.ids.items ≡ cond (nat_eq q k) c.dangles.result (is_listed q c.self.inside.dangling.items)) like.id c.settle.ensures.finds) c.settle.ensures.differ c.write-written.new.self like.id c.dangles.ensures,
      omega (arith, c.settle.ensures.capacity, c.self.invariant.3, length_over sheets c.args.index c.write-written.new.self),
      known_written c.self.inside.mentioners c.note_from.new.self sheets c.args.index s c.write-written.new.self c.len-count.result c.self.invariant.4 lt (read_boxed c.self.inside.list.items c.args.index c.as_mut-sheet.ensures.value c.index_mut.ensures.value) c.note_from.ensures.kept like.id c.len-count.ensures
          (begins_written c.args.formula c.args.kind c.args.style _ s c.write-written.new.self c.write-written.result c.write-written.ensures.ok c.write-written.ensures.err) c.note_from.ensures.noted,
      held_over c.self.inside.holders c.note.new.self sheets c.args.index c.write-written.new.self c.self.invariant.5 c.note.ensures.kept c.note.ensures.noted,
    )

pub settle-requires-clause-was : goal.settle-requires-clause-was
settle-requires-clause-was c =
    let s = c.as_mut-sheet.result.now in
    let sheets = c.self.inside.list.items in
    let lt : c.args.index < length sheets = subst (λ xs. c.args.index < length xs) (sym c.self.view_is) c.requires.within in
    let like = like_written c.args.formula c.args.kind c.args.style _ s c.write-written.new.self c.write-written.result c.write-written.ensures.ok c.write-written.ensures.err in
    ap (λ k. is_listed k c.self.inside.dangling.items) like.id ∙ listed_at c.self.inside.dangling.items sheets c.args.index s c.self.invariant.2 c.self.invariant.0.ids_differ lt (read_boxed c.self.inside.list.items c.args.index c.as_mut-sheet.ensures.value c.index_mut.ensures.value) ∙ sym c.dangles-was.ensures

pub settle-requires-clause-room : goal.settle-requires-clause-room
settle-requires-clause-room c clean =
    let sheets = c.self.inside.list.items in
    let lt : c.args.index < length sheets = subst (λ xs. c.args.index < length xs) (sym c.self.view_is) c.requires.within in
    subst (λ n. n < vec_capacity c.self.inside.dangling) (sym c.self.inside.dangling.ok.0)
    (room_at c.self.inside.dangling.items sheets c.args.index c.as_mut-sheet.result.now c.self.invariant.2 c.self.invariant.0.ids_differ lt (read_boxed c.self.inside.list.items c.args.index c.as_mut-sheet.ensures.value c.index_mut.ensures.value) (vec_capacity c.self.inside.dangling) c.self.invariant.3 (sym c.dangles-was.ensures ∙ clean))

pub returns-clause-ok : goal.returns-clause-ok
returns-clause-ok c =
    on_ok_weaker c.write-written.result
    (writes_at c.args.formula c.args.kind c.args.style _ _ c.args.index c.self.inside.list.items c.args.self.now c.as_mut-sheet.result.now c.write-written.new.self (stored_pair c.args.row c.args.column c.ranges.row c.ranges.column) c.self.view_is c.requires.within (read_boxed c.self.inside.list.items c.args.index c.as_mut-sheet.ensures.value c.index_mut.ensures.value))
    c.write-written.ensures.ok

pub returns-clause-err : goal.returns-clause-err
returns-clause-err c =
    on_err_weaker c.write-written.result
    (sheets_as_before c.self.inside.list.items c.args.self.now c.args.index c.as_mut-sheet.result.now c.write-written.new.self c.self.view_is (read_boxed c.self.inside.list.items c.args.index c.as_mut-sheet.ensures.value c.index_mut.ensures.value))
    c.write-written.ensures.err

pub returns-clause-looks_up : goal.returns-clause-looks_up
returns-clause-looks_up c =
    on_err_weaker c.write-written.result
    (looked_up_at c.self.inside.list.items c.args.self.now c.args.index c.as_mut-sheet.result.now c.write-written.new.self c.self.view_is (read_boxed c.self.inside.list.items c.args.index c.as_mut-sheet.ensures.value c.index_mut.ensures.value))
    c.write-written.ensures.looks_up

pub write-written-requires : goal.write-written-requires
write-written-requires c =
    takes_at _ _ c.args.index c.self.inside.list.items c.args.self.now c.as_mut-sheet.result.now (stored_pair c.args.row c.args.column c.ranges.row c.ranges.column) c.self.view_is c.requires.within (read_boxed c.self.inside.list.items c.args.index c.as_mut-sheet.ensures.value c.index_mut.ensures.value) c.requires.takes
