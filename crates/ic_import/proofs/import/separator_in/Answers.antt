use Rattle.std.proofs.Common.{ap, sym, ◌∙◌}
use Rattle.ic_tree.specs.Shown.{list_of}
use Rattle.ic_import.proofs.ImportLemmas.{separator_told}
use Rattle.ic_import.proofs.import.separator_in.Goals as goal

pub returns-then-is : goal.returns-then-is
returns-then-is c = ap list_of (sym c.if-is.true) ∙ separator_told c.args.locale.now c.is.result c.requires.separators c.is.ensures

pub returns-else-is : goal.returns-else-is
returns-else-is c = ap list_of (sym c.if-is.false) ∙ separator_told c.args.locale.now c.is.result c.requires.separators c.is.ensures
