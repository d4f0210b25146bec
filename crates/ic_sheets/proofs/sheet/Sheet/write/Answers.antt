use Rattle.std.proofs.Common.{◌∙◌, subst}
use Rattle.std.proofs.lemmas.Result.{on_err_weaker, on_ok_weaker}
use Rattle.ic_sheets.proofs.CellLemmas.{still_takes, still_there, still_whole, written_over, written_whole}
use Rattle.ic_sheets.proofs.WriteLemmas.{at_err, looked_up_whole, not_looked_up}
use Rattle.ic_sheets.specs.Sheet.{WritesNew}
use Rattle.ic_sheets.specs.declared.sheet.Entered.{Entered}
use Rattle.ic_cells.proofs.MapLemmas.{stored_pair}
use Rattle.ic_sheets.proofs.sheet.Sheet.write.Goals as goal

pub write_over-requires-clause-whole : goal.write_over-requires-clause-whole
write_over-requires-clause-whole c =
    let s = c.args.self.now in
    let entered : Entered = record { formula = c.args.formula; kind = c.args.kind; style = c.args.style } in
    let whole = c.make_whole_uncounted.new.self in
    let made = c.in_ok-make_whole_uncounted.ensures.ok in
    let new = c.write_new.new.self in
    let h = subst (WritesNew entered _ (record s { pool = whole }) new) c.in-Some.is c.in_ok-write_new.ensures.ok in
    still_whole entered c.in-Some.field-0 _ s new whole made h

pub write_over-requires-clause-takes : goal.write_over-requires-clause-takes
write_over-requires-clause-takes c =
    let s = c.args.self.now in
    let entered : Entered = record { formula = c.args.formula; kind = c.args.kind; style = c.args.style } in
    let whole = c.make_whole_uncounted.new.self in
    let made = c.in_ok-make_whole_uncounted.ensures.ok in
    let new = c.write_new.new.self in
    let h = subst (WritesNew entered _ (record s { pool = whole }) new) c.in-Some.is c.in_ok-write_new.ensures.ok in
    still_takes entered c.in-Some.field-0 _ s new whole made h (c.args.row, c.args.column) (stored_pair c.args.row c.args.column c.ranges.row c.ranges.column) c.requires

pub write_over-requires-clause-there : goal.write_over-requires-clause-there
write_over-requires-clause-there c =
    let s = c.args.self.now in
    let entered : Entered = record { formula = c.args.formula; kind = c.args.kind; style = c.args.style } in
    let whole = c.make_whole_uncounted.new.self in
    let made = c.in_ok-make_whole_uncounted.ensures.ok in
    let new = c.write_new.new.self in
    let h = subst (WritesNew entered _ (record s { pool = whole }) new) c.in-Some.is c.in_ok-write_new.ensures.ok in
    still_there entered c.in-Some.field-0 _ s new whole made h

pub returns-in-None-clause-ok : goal.returns-in-None-clause-ok
returns-in-None-clause-ok c =
    let s = c.args.self.now in
    let entered : Entered = record { formula = c.args.formula; kind = c.args.kind; style = c.args.style } in
    let whole = c.make_whole_uncounted.new.self in
    let made = c.in_ok-make_whole_uncounted.ensures.ok in
    let new = c.write_new.new.self in
    written_whole c.args.formula c.args.kind c.args.style _ (c.args.row, c.args.column) s new whole (stored_pair c.args.row c.args.column c.ranges.row c.ranges.column) made
    (subst (WritesNew entered _ (record s { pool = whole }) new) c.in-None.is c.in_ok-write_new.ensures.ok)

pub returns-in-Some-clause-ok : goal.returns-in-Some-clause-ok
returns-in-Some-clause-ok c =
    let s = c.args.self.now in
    let entered : Entered = record { formula = c.args.formula; kind = c.args.kind; style = c.args.style } in
    let whole = c.make_whole_uncounted.new.self in
    let made = c.in_ok-make_whole_uncounted.ensures.ok in
    let new = c.write_new.new.self in
    let h = subst (WritesNew entered _ (record s { pool = whole }) new) c.in-Some.is c.in_ok-write_new.ensures.ok in
    on_ok_weaker c.write_over.result
    (written_over entered c.in-Some.field-0 _ s new whole made h (c.args.row, c.args.column) c.write_over.new.self (stored_pair c.args.row c.args.column c.ranges.row c.ranges.column))
    c.write_over.ensures.ok

pub returns-in-Some-clause-looks_up : goal.returns-in-Some-clause-looks_up
returns-in-Some-clause-looks_up c =
    let s = c.args.self.now in
    let entered : Entered = record { formula = c.args.formula; kind = c.args.kind; style = c.args.style } in
    let whole = c.make_whole_uncounted.new.self in
    let made = c.in_ok-make_whole_uncounted.ensures.ok in
    let new = c.write_new.new.self in
    let h = subst (WritesNew entered _ (record s { pool = whole }) new) c.in-Some.is c.in_ok-write_new.ensures.ok in
    on_err_weaker c.write_over.result (λ same. looked_up_whole s c.write_over.new.self whole made (same ∙ h.2)) c.write_over.ensures.err

pub returns-in_err-write_new-clause-looks_up : goal.returns-in_err-write_new-clause-looks_up
returns-in_err-write_new-clause-looks_up c =
    at_err c.from_residual-in_err-write_new.result _ (looked_up_whole c.args.self.now c.write_new.new.self c.make_whole_uncounted.new.self c.in_ok-make_whole_uncounted.ensures.ok c.in_err-write_new.ensures.err)

pub returns-in_err-make_whole_uncounted-clause-looks_up : goal.returns-in_err-make_whole_uncounted-clause-looks_up
returns-in_err-make_whole_uncounted-clause-looks_up c = at_err c.from_residual.result _ (not_looked_up c.args.self.now c.make_whole_uncounted.new.self c.in_err-make_whole_uncounted.ensures.err)
