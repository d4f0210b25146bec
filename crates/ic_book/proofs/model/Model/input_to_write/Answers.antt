use Rattle.std.proofs.Common.{IfOk, Some, chars, subst, sym}
use Rattle.ic_laws.specs.CoreBook.{CellPlace}
use Rattle.ic_machine.specs.Command.{OnWriting}
use Rattle.ic_machine.specs.subjects.Writing.{SetUserInput}
use Rattle.ic_parts.specs.Book.{whole_of}
use Rattle.ic_parts.specs.Translated.{IsToldOf}
use Rattle.ic_changes.proofs.OwnTextLemmas.{input_gone}
use Rattle.ic_book.proofs.ValueLemmas.{refusal_there}
use Rattle.ic_book.proofs.model.Model.input_to_write.Goals as goal
use Rattle.ic_book.proofs.model.Model.input_to_write.Goals.{in-Ok, in-Err}
use Rattle.ic_cells.proofs.MapLemmas.{stored_pair}

pub returns : goal.returns
returns c =
    let now = c.args.self.now in
    let text = chars c.args.text.now in
    let same = stored_pair c.args.row c.args.column c.ranges.row c.ranges.column in
    elim c.match-style_to_write.branch [
      | in-Ok w ↦ (subst (λ r. IfOk r (IsToldOf (whole_of now.book) (OnWriting (SetUserInput c.args.sheet c.args.row c.args.column text)))) (sym w.result-is)
          (subst (λ (p : CellPlace). IfOk w.input_there.result (IsToldOf (whole_of now.book) (OnWriting (SetUserInput c.args.sheet p.0 p.1 text)))) same w.input_there.ensures))
      | in-Err w ↦ (let t = w.in-Err.ensures.refused in
          subst (λ r. IfOk r (IsToldOf (whole_of now.book) (OnWriting (SetUserInput c.args.sheet c.args.row c.args.column text)))) (sym w.result-is)
          (input_gone now c.style_to_write.ensures.valid c.args.sheet c.args.row c.args.column text _ (t.0, t.1, refusal_there now.book c.args.sheet c.args.row c.args.column _ same (Some t.0) t.2)))
    ]
