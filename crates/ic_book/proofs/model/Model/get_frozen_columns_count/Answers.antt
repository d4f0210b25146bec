use Rattle.std.proofs.Common.{rules}
use Rattle.ic_machine.specs.Reply.{position_field}
use Rattle.ic_machine.specs.subjects.Tabs.{frozen_columns_step}
use Rattle.ic_parts.proofs.PartUses.{tab_read}
use Rattle.ic_book.proofs.model.Model.get_frozen_columns_count.Goals as goal

pub returns : goal.returns
returns c = record { does = tab_read frozen_columns_step position_field c.of_tab.ensures (λ tab r called. search rules) }
