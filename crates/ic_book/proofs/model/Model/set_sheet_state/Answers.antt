use Rattle.std.proofs.Common.{rules}
use Rattle.ic_machine.specs.subjects.Tabs.{state_step}
use Rattle.ic_parts.specs.Fields.{no_fields}
use Rattle.ic_parts.proofs.PartUses.{tab_changed}
use Rattle.ic_book.proofs.model.Model.set_sheet_state.Goals as goal

pub returns-clause-does : goal.returns-clause-does
returns-clause-does c = tab_changed (state_step c.args.state) no_fields c.on_tab.ensures.changes (λ before after r called. search rules)
