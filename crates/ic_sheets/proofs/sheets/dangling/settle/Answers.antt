use Rattle.std.proofs.Common.{◌∙◌}
use Rattle.ic_sheets.proofs.DanglingLemmas.{put_in, taken_out}
use Rattle.ic_sheets.proofs.sheets.dangling.settle.Goals as goal

pub returns-in-true-false-clause-finds : goal.returns-in-true-false-clause-finds
returns-in-true-false-clause-finds c q = let h = (taken_out c.args.ids.now.items c.take_out.new.ids.items c.args.id c.requires.differ c.take_out.ensures.ids).0 q in cc

pub returns-in-true-false-clause-differ : goal.returns-in-true-false-clause-differ
returns-in-true-false-clause-differ c = (taken_out c.args.ids.now.items c.take_out.new.ids.items c.args.id c.requires.differ c.take_out.ensures.ids).1

pub returns-in-false-true-clause-differ : goal.returns-in-false-true-clause-differ
returns-in-false-true-clause-differ c = (put_in c.args.ids.now.items c.push_reserved.new.self.items c.args.id c.requires.differ (c.requires.was ∙ c.in-false-true.is-0) c.push_reserved.ensures.items).1
