use Rattle.std.proofs.Common.{◌≡◌, IfOk, None, Some, ap, chars, option_map, subst, sym, ◌∙◌}
use Rattle.std.proofs.lemmas.Result.{IfOk-weaker}
use Rattle.ic_laws.specs.CoreBook.{CellPlace}
use Rattle.ic_grid.specs.Block.{block_at}
use Rattle.ic_machine.specs.Command.{OnArrays}
use Rattle.ic_machine.specs.subjects.Arrays.{SetUserArrayFormula}
use Rattle.ic_sheets.proofs.CellLemmas.{stored_block}
use Rattle.ic_parts.specs.Arrays.{after_equals, array_refusal}
use Rattle.ic_parts.specs.Book.{whole_of}
use Rattle.ic_parts.specs.Translated.{IsToldOf, formula_own}
use Rattle.ic_changes.proofs.OwnTextLemmas.{array_gone, array_own, bodiless_gone}
use Rattle.ic_book.proofs.model.Model.array_to_write.Goals as goal
use Rattle.ic_book.proofs.model.Model.array_to_write.Goals.{in-Ok+in-Some, in-Ok+in-None, in-Err}
use Rattle.ic_cells.proofs.MapLemmas.{stored_pair}

pub returns : goal.returns
returns c =
    let now = c.args.self.now in
    let text = chars c.args.text.now in
    let valid = c.may_write_array.ensures.valid in
    let b = block_at (c.args.row, c.args.column) c.args.width c.args.height in
    let same = stored_block c.args.row c.args.column c.args.width c.args.height c.ranges.row c.ranges.column c.ranges.width c.ranges.height in
    let command = OnArrays (SetUserArrayFormula c.args.sheet b text) in
    elim c.match-may_write_array.branch [
      | in-Ok+in-Some w ↦ (let typed : after_equals text ≡ Some (chars w.in-Some.body.now) = sym w.after_equals.ensures ∙ ap (option_map (λ f. chars f.now)) w.in-Some.is in
          subst (λ r. IfOk r (IsToldOf (whole_of now.book) command)) (sym w.result-is)
          (IfOk-weaker w.own_formula.result _ _ (λ own made. array_own now valid c.args.sheet b text (ap (array_refusal now.book c.args.sheet) (sym same) ∙ w.in-Ok.ensures.refused) (chars w.in-Some.body.now) typed own made)
          (subst (λ (p : CellPlace). IfOk w.own_formula.result (λ own. own ≡ formula_own now.book c.args.sheet p.0 p.1 (chars w.in-Some.body.now))) (stored_pair c.args.row c.args.column c.ranges.row c.ranges.column) w.own_formula.ensures)))
      | in-Ok+in-None w ↦ (let typed : after_equals text ≡ None = sym w.after_equals.ensures ∙ ap (option_map (λ f. chars f.now)) w.in-None.is in
          subst (λ r. IfOk r (IsToldOf (whole_of now.book) command)) (sym w.result-is)
          (bodiless_gone now valid c.args.sheet b text (ap (array_refusal now.book c.args.sheet) (sym same) ∙ w.in-Ok.ensures.refused) typed))
      | in-Err w ↦ (let t = w.in-Err.ensures.refused in
          subst (λ r. IfOk r (IsToldOf (whole_of now.book) command)) (sym w.result-is)
          (array_gone now valid c.args.sheet b text _ (t.0, t.1, ap (array_refusal now.book c.args.sheet) (sym same) ∙ t.2)))
    ]
