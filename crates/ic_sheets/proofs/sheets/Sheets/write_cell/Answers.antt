use Rattle.std.proofs.Common.{◌<◌, ◌∙◌, ap, length, of_z, refl, slice_set, subst, sym, to_z, w32, arith}
use Rattle.ic_laws.specs.CoreBook.{CellPlace}
use Rattle.ic_laws.specs.CoreStep.{updated_at}
use Rattle.ic_sheets.proofs.HolderLemmas.{held_over}
use Rattle.ic_sheets.proofs.DanglingLemmas.{dangling_over, left_alone, length_over, listed_at}
use Rattle.ic_sheets.proofs.IndexLemmas.{read_boxed, set_updated}
use Rattle.ic_sheets.proofs.MentionerLemmas.{known_like}
use Rattle.ic_sheets.proofs.PlaceLemmas.{placed_same}
use Rattle.ic_sheets.proofs.WriteLemmas.{IsLike, at_ok, kept_over, not_ok, seen_over}
use Rattle.ic_grid.specs.declared.grid.Grid.{Grid}
use Rattle.ic_sheets.specs.Index.{dangles}
use Rattle.ic_sheets.specs.Sheet.{with_cell_in}
use Rattle.ic_sheets.specs.declared.sheet.Sheet.{Sheet}
use Rattle.ic_sheets.proofs.sheets.Sheets.write_cell.Goals as goal
use Rattle.ic_sheets.proofs.sheets.Sheets.write_cell.Goals.{in-Ok, in-Err}
use Rattle.ic_cells.proofs.MapLemmas.{stored_pair}

pub invariant_of-self : goal.invariant_of-self
invariant_of-self c =
    let s = c.as_mut-sheet.result.now in
    let after : Sheet = record s { grid = c.write-written.new.self } in
    let like : IsLike s after = record { id = refl; name = refl } in
    let sheets = c.self.inside.list.items in
    let now = c.self.inside.dangling.items in
    let read = (read_boxed c.self.inside.list.items c.args.index c.as_mut-sheet.ensures.value c.index_mut.ensures.value) in
    let lt : c.args.index < length sheets = subst (λ xs. c.args.index < length xs) (sym c.self.view_is) c.requires.within in
    let differ = c.self.invariant.0.ids_differ in (
      kept_over c.self.inside.greatest sheets c.args.index s after c.self.invariant.0 read like,
      placed_same c.self.inside.indexes sheets _ c.self.invariant.1 (seen_over (λ (x : Sheet). x.id) sheets c.args.index s after read refl),
      dangling_over now sheets c.args.index s c.self.invariant.2 differ lt read now (dangles s)
          (left_alone now s.id (dangles s) (listed_at now sheets c.args.index s c.self.invariant.2 differ lt read)) c.self.invariant.2.differ after refl refl,
      omega (arith, c.self.invariant.3, length_over sheets c.args.index after),
      known_like c.self.inside.mentioners sheets c.args.index s after c.self.invariant.4 lt read refl refl,
      held_over c.self.inside.holders c.note.new.self sheets c.args.index after c.self.invariant.5 c.note.ensures.kept c.note.ensures.noted,
    )

pub returns-clause-ok : goal.returns-clause-ok
returns-clause-ok c =
    let s = c.as_mut-sheet.result.now in
    let sheets = c.self.inside.list.items in
    let put : Sheet → Sheet = λ x. record x { grid = with_cell_in (to_z w32 (of_z w32 c.args.row), to_z w32 (of_z w32 c.args.column)) c.args.cell x.grid } in
    elim c.match-written.branch [
      | in-Ok w ↦
          at_ok c.match-written.result _
          (ap (λ (g : Grid). slice_set sheets c.args.index (record s { grid = g })) w.in-Ok.ensures.ok ∙ set_updated put sheets c.args.index s (read_boxed c.self.inside.list.items c.args.index c.as_mut-sheet.ensures.value c.index_mut.ensures.value) ∙ ap (updated_at put c.args.index) c.self.view_is
          ∙ ap (λ (p : CellPlace). updated_at (λ (x : Sheet). record x { grid = with_cell_in p c.args.cell x.grid }) c.args.index c.args.self.now) (stored_pair c.args.row c.args.column c.ranges.row c.ranges.column))
      | in-Err w ↦ not_ok c.match-written.result _ w.result-is
    ]
