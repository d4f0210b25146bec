use Rattle.std.proofs.Common.{arith, chars, rules}
use Rattle.ic_parts.proofs.InsertedDoes.{accepts_chosen, insert_refused, insert_wanted, inserts}
use Rattle.ic_book.proofs.InsertedHeld.{says_id}
use Rattle.ic_book.proofs.model.Model.insert_sheet.Goals as goal

pub returns-in_err-id-clause-does : goal.returns-in_err-id-clause-does
returns-in_err-id-clause-does c =
    insert_refused (chars c.args.sheet_name.now) c.args.sheet_index c.args.sheet_id c.args.self.now c.id_to_insert.ensures.valid c.in_err-id.field-0.0 c.in_err-id.ensures.refused c.from_residual.result c.from_residual.ensures

pub insert_at-requires : goal.insert_at-requires
insert_at-requires c =
    accepts_chosen c.args.self.now.book c.id_to_insert.ensures.valid (chars c.args.sheet_name.now) c.args.sheet_index c.args.sheet_id c.in_ok-id.id c.in_ok-id.ensures.id c.in_ok-id.ensures.refused

pub returns-in_err-insert_at-clause-does : goal.returns-in_err-insert_at-clause-does
returns-in_err-insert_at-clause-does c =
    insert_wanted (chars c.args.sheet_name.now) c.args.sheet_index c.args.sheet_id c.args.self.now c.id_to_insert.ensures.valid c.in_ok-id.id c.in_ok-id.ensures.id c.in_ok-id.ensures.refused
    c.insert_at.new.self c.in_err-insert_at.ensures.err c.from_residual-in_err-insert_at.result c.from_residual-in_err-insert_at.ensures

pub returns-clause-does : goal.returns-clause-does
returns-clause-does c =
    inserts (chars c.args.sheet_name.now) c.args.sheet_index c.args.sheet_id c.args.self.now c.id_to_insert.ensures.valid c.in_ok-id.id c.in_ok-id.ensures.id c.in_ok-id.ensures.refused
    c.insert_at.new.self (says_id c.in_ok-id.id (search (rules, arith))) c.in_ok-insert_at.ensures.ok
