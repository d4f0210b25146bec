use Rattle.std.proofs.Common.{refl, rules}
use Rattle.ic_machine.specs.Command.{OnTabs}
use Rattle.ic_words.specs.subjects.Tabs.{tabs_meant}
use Rattle.ic_commands.proofs.AnswerLemmas.{changed, only_read}
use Rattle.ic_commands.proofs.answer.tabs.answer_tabs.Goals as goal

pub returns-in_ok-into_string-in-SetTheme : goal.returns-in_ok-into_string-in-SetTheme
returns-in_ok-into_string-in-SetTheme c = changed (OnTabs (tabs_meant c.args.command)) refl c.told.ensures c.set_theme.ensures.does (search rules) (search rules) refl

pub returns-in-GetTheme : goal.returns-in-GetTheme
returns-in-GetTheme c = only_read c.told-in-GetTheme.ensures c.get_theme.ensures.does (search rules)

pub returns-in-SetFrozenRows : goal.returns-in-SetFrozenRows
returns-in-SetFrozenRows c = changed (OnTabs (tabs_meant c.args.command)) refl c.told-in-SetFrozenRows.ensures c.set_frozen_rows.ensures.does (search rules) (search rules) refl

pub returns-in-SetFrozenColumns : goal.returns-in-SetFrozenColumns
returns-in-SetFrozenColumns c = changed (OnTabs (tabs_meant c.args.command)) refl c.told-in-SetFrozenColumns.ensures c.set_frozen_columns.ensures.does (search rules) (search rules) refl

pub returns-in-GetFrozenRowsCount : goal.returns-in-GetFrozenRowsCount
returns-in-GetFrozenRowsCount c = only_read c.told-in-GetFrozenRowsCount.ensures c.get_frozen_rows_count.ensures.does (search rules)

pub returns-in-GetFrozenColumnsCount : goal.returns-in-GetFrozenColumnsCount
returns-in-GetFrozenColumnsCount c = only_read c.told-in-GetFrozenColumnsCount.ensures c.get_frozen_columns_count.ensures.does (search rules)

pub returns-in_ok-color-in-SetSheetColor : goal.returns-in_ok-color-in-SetSheetColor
returns-in_ok-color-in-SetSheetColor c = changed (OnTabs (tabs_meant c.args.command)) refl c.told-in-SetSheetColor.ensures c.set_sheet_color.ensures.does (search rules) (search rules) refl

pub returns-in-SetSheetState : goal.returns-in-SetSheetState
returns-in-SetSheetState c = changed (OnTabs (tabs_meant c.args.command)) refl c.told-in-SetSheetState.ensures c.set_sheet_state.ensures.does (search rules) (search rules) refl

pub returns-in-SetShowGridLines : goal.returns-in-SetShowGridLines
returns-in-SetShowGridLines c = changed (OnTabs (tabs_meant c.args.command)) refl c.told-in-SetShowGridLines.ensures c.set_show_grid_lines.ensures.does (search rules) (search rules) refl
