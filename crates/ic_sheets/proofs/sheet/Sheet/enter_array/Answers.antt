use Rattle.std.proofs.Common.{◌<◌, length, arith}
use Rattle.ic_sheets.proofs.PoolLemmas.{ends_new}
use Rattle.ic_sheets.proofs.sheet.Sheet.enter_array.Goals as goal

pub take_back-requires-clause-last : goal.take_back-requires-clause-last
take_back-requires-clause-last c =
    let longer : length c.args.self.now.pool.formulas < length c.place.new.self.formulas = omega (arith, c.len.ensures, c.len-count.ensures, c.if-len-count.true) in
    ends_new c.args.formula c.in_ok-at.at c.args.self.now.pool.formulas c.place.new.self.formulas c.in_ok-at.ensures.ok c.in_ok-key.key c.in_ok-key.ensures longer
