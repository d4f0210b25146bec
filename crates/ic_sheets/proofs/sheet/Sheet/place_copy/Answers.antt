use Rattle.std.proofs.lemmas.Result.{on_err_weaker}
use Rattle.ic_sheets.proofs.WriteLemmas.{at_err, looked_up, not_looked_up}
use Rattle.ic_sheets.proofs.sheet.Sheet.place_copy.Goals as goal

pub returns-clause-looks_up : goal.returns-clause-looks_up
returns-clause-looks_up g c = on_err_weaker c.place_copy.result (looked_up c.args.self.now c.make_whole.new.self c.place_copy.new.self c.in_ok-make_whole.ensures.ok) c.place_copy.ensures.err

pub returns-in_err-make_whole-clause-looks_up : goal.returns-in_err-make_whole-clause-looks_up
returns-in_err-make_whole-clause-looks_up g c = at_err c.from_residual.result _ (not_looked_up c.args.self.now c.make_whole.new.self c.in_err-make_whole.ensures.err)
