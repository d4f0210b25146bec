use Rattle.std.proofs.Common.{rules}
use Rattle.ic_machine.specs.subjects.Tabs.{color_step}
use Rattle.ic_parts.specs.Fields.{no_fields}
use Rattle.ic_parts.proofs.PartUses.{tab_made}
use Rattle.ic_book.proofs.model.Model.set_sheet_color.Goals as goal

pub returns-clause-does : goal.returns-clause-does
returns-clause-does c = tab_made (color_step c.args.color.now) no_fields c.on_tab.ensures.changes (λ before after r called. search rules)
