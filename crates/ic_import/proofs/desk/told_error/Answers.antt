use Rattle.std.proofs.Common.{ap}
use Rattle.ic_import.specs.Desk.{failed}
use Rattle.ic_import.proofs.DeskLemmas.{no_text_told, outside_told}
use Rattle.ic_import.proofs.desk.told_error.Goals as goal

pub returns-in-NotUtf8-clause-text : goal.returns-in-NotUtf8-clause-text
returns-in-NotUtf8-clause-text c = λ left. no_text_told left c.refused.result c.or_no_memory.result c.or_no_memory.ensures.text (failed c.args.e.now) _ _ (ap failed c.in-NotUtf8.is) c.refused.ensures

pub returns-in-OutsideSheet-clause-text : goal.returns-in-OutsideSheet-clause-text
returns-in-OutsideSheet-clause-text c =
    λ left. outside_told left c.refused-in-OutsideSheet.result c.or_no_memory-in-OutsideSheet.result c.or_no_memory-in-OutsideSheet.ensures.text (failed c.args.e.now) _ _ (ap failed c.in-OutsideSheet.is) c.refused-in-OutsideSheet.ensures
