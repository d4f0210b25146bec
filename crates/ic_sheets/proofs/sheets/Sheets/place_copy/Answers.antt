use Rattle.std.proofs.Common.{◌≡◌, ◌<◌, ◌∙◌, ℕ, ap, sym, subst, cond, nat_eq, length, vec_capacity, arith}
use Rattle.std.proofs.lemmas.Result.{IfOk-weaker, on_err_weaker}
use Rattle.ic_sheets.proofs.HolderLemmas.{cells_copied, held_like}
use Rattle.ic_sheets.proofs.IndexLemmas.{read_boxed}
use Rattle.ic_sheets.proofs.DanglingLemmas.{dangling_over, length_over, listed_at, room_at}
use Rattle.ic_sheets.proofs.MentionerLemmas.{begins_copied, known_written}
use Rattle.ic_sheets.proofs.PlaceLemmas.{placed_same}
use Rattle.ic_sheets.specs.Index.{is_listed}
use Rattle.ic_sheets.specs.declared.sheet.Sheet.{Sheet}
use Rattle.ic_sheets.proofs.WriteLemmas.{copies_at, kept_over, like_copied, pool_is, seen_over, looked_up_at, sheets_as_before, whole_at}
use Rattle.ic_sheets.proofs.sheets.Sheets.place_copy.Goals as goal

pub invariant_of-self : goal.invariant_of-self
invariant_of-self g c =
    let s = c.as_mut-sheet.result.now in
    let sheets = c.self.inside.list.items in
    let lt : c.args.index < length sheets = subst (λ xs. c.args.index < length xs) (sym c.self.view_is) c.requires in
    let like = like_copied c.args.formula.now s c.place_copy-placed.new.self c.place_copy-placed.result c.place_copy-placed.ensures.ok c.place_copy-placed.ensures.err in (
      kept_over c.self.inside.greatest sheets c.args.index s c.place_copy-placed.new.self c.self.invariant.0 (read_boxed c.self.inside.list.items c.args.index c.as_mut-sheet.ensures.value c.index_mut.ensures.value) like,
      placed_same c.self.inside.indexes sheets _ c.self.invariant.1 (seen_over (λ (x : Sheet). x.id) sheets c.args.index s c.place_copy-placed.new.self (read_boxed c.self.inside.list.items c.args.index c.as_mut-sheet.ensures.value c.index_mut.ensures.value) like.id),
      dangling_over c.self.inside.dangling.items sheets c.args.index s c.self.invariant.2 c.self.invariant.0.ids_differ lt (read_boxed c.self.inside.list.items c.args.index c.as_mut-sheet.ensures.value c.index_mut.ensures.value) c.settle.new.ids.items c.dangles.result
          (subst (λ (k : ℕ). (q : ℕ) → is_listed q c.settle.new.ids.items ≡ cond (nat_eq q k) c.dangles.result (is_listed q c.self.inside.dangling.items)) like.id c.settle.ensures.finds) c.settle.ensures.differ c.place_copy-placed.new.self like.id c.dangles.ensures,
      omega (arith, c.settle.ensures.capacity, c.self.invariant.3, length_over sheets c.args.index c.place_copy-placed.new.self),
      known_written c.self.inside.mentioners c.note_from.new.self sheets c.args.index s c.place_copy-placed.new.self c.len-count.result c.self.invariant.4 lt (read_boxed c.self.inside.list.items c.args.index c.as_mut-sheet.ensures.value c.index_mut.ensures.value) c.note_from.ensures.kept like.id c.len-count.ensures
          (begins_copied c.args.formula.now s c.place_copy-placed.new.self c.place_copy-placed.result c.place_copy-placed.ensures.ok c.place_copy-placed.ensures.err) c.note_from.ensures.noted,
      held_like c.self.inside.holders sheets c.args.index s c.place_copy-placed.new.self c.self.invariant.5 lt (read_boxed c.self.inside.list.items c.args.index c.as_mut-sheet.ensures.value c.index_mut.ensures.value) like.id
          (cells_copied c.args.formula.now s c.place_copy-placed.new.self c.place_copy-placed.result c.place_copy-placed.ensures.ok c.place_copy-placed.ensures.err),
    )

pub settle-requires-clause-was : goal.settle-requires-clause-was
settle-requires-clause-was g c =
    let s = c.as_mut-sheet.result.now in
    let sheets = c.self.inside.list.items in
    let lt : c.args.index < length sheets = subst (λ xs. c.args.index < length xs) (sym c.self.view_is) c.requires in
    let like = like_copied c.args.formula.now s c.place_copy-placed.new.self c.place_copy-placed.result c.place_copy-placed.ensures.ok c.place_copy-placed.ensures.err in
    ap (λ k. is_listed k c.self.inside.dangling.items) like.id ∙ listed_at c.self.inside.dangling.items sheets c.args.index s c.self.invariant.2 c.self.invariant.0.ids_differ lt (read_boxed c.self.inside.list.items c.args.index c.as_mut-sheet.ensures.value c.index_mut.ensures.value) ∙ sym c.dangles-was.ensures

pub settle-requires-clause-room : goal.settle-requires-clause-room
settle-requires-clause-room g c clean =
    let sheets = c.self.inside.list.items in
    let lt : c.args.index < length sheets = subst (λ xs. c.args.index < length xs) (sym c.self.view_is) c.requires in
    subst (λ n. n < vec_capacity c.self.inside.dangling) (sym c.self.inside.dangling.ok.0)
    (room_at c.self.inside.dangling.items sheets c.args.index c.as_mut-sheet.result.now c.self.invariant.2 c.self.invariant.0.ids_differ lt (read_boxed c.self.inside.list.items c.args.index c.as_mut-sheet.ensures.value c.index_mut.ensures.value) (vec_capacity c.self.inside.dangling) c.self.invariant.3 (sym c.dangles-was.ensures ∙ clean))

pub returns-clause-ok : goal.returns-clause-ok
returns-clause-ok g c =
    IfOk-weaker c.place_copy-placed.result _ _
    (copies_at c.args.formula.now c.args.index c.self.inside.list.items c.args.self.now c.as_mut-sheet.result.now c.place_copy-placed.new.self c.self.view_is c.requires (read_boxed c.self.inside.list.items c.args.index c.as_mut-sheet.ensures.value c.index_mut.ensures.value))
    c.place_copy-placed.ensures.ok

pub returns-clause-err : goal.returns-clause-err
returns-clause-err g c =
    on_err_weaker c.place_copy-placed.result
    (sheets_as_before c.self.inside.list.items c.args.self.now c.args.index c.as_mut-sheet.result.now c.place_copy-placed.new.self c.self.view_is (read_boxed c.self.inside.list.items c.args.index c.as_mut-sheet.ensures.value c.index_mut.ensures.value))
    c.place_copy-placed.ensures.err

pub returns-clause-still : goal.returns-clause-still
returns-clause-still g c e =
    c.place_copy-placed.ensures.still (whole_at c.self.inside.list.items c.args.self.now c.args.index c.as_mut-sheet.result.now c.self.view_is c.requires (read_boxed c.self.inside.list.items c.args.index c.as_mut-sheet.ensures.value c.index_mut.ensures.value) e)

pub returns-clause-cost : goal.returns-clause-cost
returns-clause-cost g c =
    let same = ap length (pool_is c.self.inside.list.items c.args.self.now c.args.index c.as_mut-sheet.result.now c.self.view_is c.requires (read_boxed c.self.inside.list.items c.args.index c.as_mut-sheet.ensures.value c.index_mut.ensures.value)) in
    omega (arith, same, c.place_copy-placed.ensures.cost)

pub returns-clause-looks_up : goal.returns-clause-looks_up
returns-clause-looks_up g c =
    on_err_weaker c.place_copy-placed.result
    (looked_up_at c.self.inside.list.items c.args.self.now c.args.index c.as_mut-sheet.result.now c.place_copy-placed.new.self c.self.view_is (read_boxed c.self.inside.list.items c.args.index c.as_mut-sheet.ensures.value c.index_mut.ensures.value))
    c.place_copy-placed.ensures.looks_up
