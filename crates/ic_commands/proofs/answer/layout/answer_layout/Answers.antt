use Rattle.std.proofs.Common.{refl, rules}
use Rattle.ic_machine.specs.Command.{OnLayout}
use Rattle.ic_words.specs.subjects.Layout.{layout_meant}
use Rattle.ic_commands.proofs.AnswerLemmas.{changed, only_read}
use Rattle.ic_commands.proofs.answer.layout.answer_layout.Goals as goal

pub returns-in-SetColumnWidth : goal.returns-in-SetColumnWidth
returns-in-SetColumnWidth c = changed (OnLayout (layout_meant c.args.command)) refl c.told.ensures c.set_column_width.ensures.does (search rules) (search rules) refl

pub returns-in-SetRowHeight : goal.returns-in-SetRowHeight
returns-in-SetRowHeight c = changed (OnLayout (layout_meant c.args.command)) refl c.told-in-SetRowHeight.ensures c.set_row_height.ensures.does (search rules) (search rules) refl

pub returns-in-GetColumnWidth : goal.returns-in-GetColumnWidth
returns-in-GetColumnWidth c = only_read c.told-in-GetColumnWidth.ensures c.get_column_width.ensures.does (search rules)

pub returns-in-GetRowHeight : goal.returns-in-GetRowHeight
returns-in-GetRowHeight c = only_read c.told-in-GetRowHeight.ensures c.get_row_height.ensures.does (search rules)

pub returns-in-SetColumnHidden : goal.returns-in-SetColumnHidden
returns-in-SetColumnHidden c = changed (OnLayout (layout_meant c.args.command)) refl c.told-in-SetColumnHidden.ensures c.set_column_hidden.ensures.does (search rules) (search rules) refl

pub returns-in-SetRowHidden : goal.returns-in-SetRowHidden
returns-in-SetRowHidden c = changed (OnLayout (layout_meant c.args.command)) refl c.told-in-SetRowHidden.ensures c.set_row_hidden.ensures.does (search rules) (search rules) refl

pub returns-in-IsColumnHidden : goal.returns-in-IsColumnHidden
returns-in-IsColumnHidden c = only_read c.told-in-IsColumnHidden.ensures c.is_column_hidden.ensures.does (search rules)

pub returns-in-IsRowHidden : goal.returns-in-IsRowHidden
returns-in-IsRowHidden c = only_read c.told-in-IsRowHidden.ensures c.is_row_hidden.ensures.does (search rules)
