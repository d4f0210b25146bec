use Rattle.std.proofs.Common.{◌<◌, ◌∙◌, ap, get_or, length, refl, subst, sym, arith}
use Rattle.std.proofs.lemmas.Option.{slice_get_read}
use Rattle.ic_laws.specs.CoreStep.{updated_at}
use Rattle.ic_sheets.proofs.HolderLemmas.{held_over}
use Rattle.ic_sheets.proofs.DanglingLemmas.{dangling_over, left_alone, length_over, listed_at}
use Rattle.ic_sheets.proofs.IndexLemmas.{read_boxed, set_updated}
use Rattle.ic_sheets.proofs.MentionerLemmas.{known_like}
use Rattle.ic_sheets.proofs.PlaceLemmas.{placed_same}
use Rattle.ic_sheets.proofs.WriteLemmas.{IsLike, kept_over, seen_over}
use Rattle.ic_sheets.specs.Index.{dangles}
use Rattle.ic_sheets.specs.declared.sheet.Sheet.{Sheet}
use Rattle.ic_sheets.proofs.sheets.Sheets.change_grid.Goals as goal

pub invariant_of-self : goal.invariant_of-self
invariant_of-self g c =
    let s = c.as_mut-sheet.result.now in
    let after : Sheet = record s { grid = c.change-answer.new.arg2 } in
    let like : IsLike s after = record { id = refl; name = refl } in
    let sheets = c.self.inside.list.items in
    let now = c.self.inside.dangling.items in
    let read = (read_boxed c.self.inside.list.items c.args.index c.as_mut-sheet.ensures.value c.index_mut.ensures.value) in
    let lt : c.args.index < length sheets = subst (λ xs. c.args.index < length xs) (sym c.self.view_is) c.requires.within in
    let differ = c.self.invariant.0.ids_differ in (
      kept_over c.self.inside.greatest sheets c.args.index s after c.self.invariant.0 read like,
      placed_same c.self.inside.indexes sheets _ c.self.invariant.1 (seen_over (λ (x : Sheet). x.id) sheets c.args.index s after read refl),
      dangling_over now sheets c.args.index s c.self.invariant.2 differ lt read now (dangles s)
          (left_alone now s.id (dangles s) (listed_at now sheets c.args.index s c.self.invariant.2 differ lt read)) c.self.invariant.2.differ after refl refl,
      omega (arith, c.self.invariant.3, length_over sheets c.args.index after),
      known_like c.self.inside.mentioners sheets c.args.index s after c.self.invariant.4 lt read refl refl,
      held_over c.self.inside.holders c.note.new.self sheets c.args.index after c.self.invariant.5 c.note.ensures.kept c.note.ensures.noted,
    )

pub returns : goal.returns
returns g c =
    let s = c.as_mut-sheet.result.now in
    let put : Sheet → Sheet = λ x. record x { grid = c.change-answer.new.arg2 } in
    let sheets = c.self.inside.list.items in
    let read = (read_boxed c.self.inside.list.items c.args.index c.as_mut-sheet.ensures.value c.index_mut.ensures.value) in
    record {
      sheet = s;
      after = c.change-answer.new.arg2;
      there = slice_get_read c.args.self.now (length c.args.self.now) c.args.index s refl c.requires.within (read ∙ ap (λ xs. get_or xs c.args.index s) c.self.view_is);
      called = record { shown = _; shows = refl; left = _; met = c.change-answer.ensures; leaves = refl };
      becomes = set_updated put sheets c.args.index s read ∙ ap (updated_at put c.args.index) c.self.view_is;
    }
