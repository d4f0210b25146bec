-- Sheets by example.
use Rattle.std.proofs.Common.{◌≡◌, ◌∷◌, [], codes, refl}
use Rattle.caseless.proofs.Computing.{caseless}
use Rattle.ic_laws.specs.Command.{commands}
use Rattle.ic_laws.specs.CoreStep.{core_step}
use Rattle.ic_tree.proofs.machine.Session.{answers, step}
use Rattle.ic_tree.proofs.machine.Small.{start}

-- a name that agrees with that of a sheet is refused
same_name_twice : answers start (codes "add_sheet\tData" ∷ codes "add_sheet\tDATA" ∷ []) ≡ codes "ok" ∷ codes "error\tSheetExists" ∷ []
unfolding answers step caseless commands core_step
same_name_twice = refl

-- a name that is too long is told as such where it agrees with that of a sheet, too: 16 sharp s agree with 32 s
long_first : answers start (codes "add_sheet\tßßßßßßßßßßßßßßßß" ∷ codes "add_sheet\tssssssssssssssssssssssssssssssss" ∷ codes "add_sheet\tsssssssssssssssssssssssssssssss" ∷ []) ≡ codes "ok" ∷ codes "error\tInvalidSheetName" ∷ codes "ok" ∷ []
unfolding answers step caseless commands core_step
long_first = refl

-- sheets that aren't there, and one that is the only one
moved_and_deleted : answers start
    (codes "delete_sheet\t5" ∷ codes "move_sheet\t5\t0" ∷ codes "move_sheet\t0\t5" ∷ codes "move_sheet\t0\t0" ∷ codes "add_sheet\tA" ∷ codes "delete_sheet_by_name\ta" ∷ codes "delete_sheet_by_sheet_id\t9" ∷ [])
    ≡ codes "error\tOnlySheet" ∷ codes "error\tSheetIndexTooLarge" ∷ codes "error\tTargetTooLarge" ∷ codes "ok" ∷ codes "ok" ∷ codes "ok" ∷ codes "error\tSheetNotFound" ∷ []
unfolding answers step caseless commands core_step
moved_and_deleted = refl

-- of three sheets the first is put last: the second is the first one then, and goes
moved_on : answers start
    (codes "add_sheet\tB" ∷ codes "add_sheet\tC" ∷ codes "move_sheet\t0\t2" ∷ codes "delete_sheet\t0" ∷ codes "delete_sheet_by_name\tB" ∷ codes "delete_sheet_by_name\tc" ∷ codes "delete_sheet_by_name\tsheet1" ∷ [])
    ≡ codes "ok" ∷ codes "ok" ∷ codes "ok" ∷ codes "ok" ∷ codes "error\tSheetNotFound" ∷ codes "ok" ∷ codes "error\tOnlySheet" ∷ []
unfolding answers step caseless commands core_step
moved_on = refl

-- the last is put first: the one that was first is the second one then, and goes
moved_back : answers start
    (codes "add_sheet\tB" ∷ codes "add_sheet\tC" ∷ codes "move_sheet\t2\t0" ∷ codes "delete_sheet\t1" ∷ codes "delete_sheet_by_name\tSheet1" ∷ codes "delete_sheet_by_name\tB" ∷ codes "delete_sheet_by_name\tC" ∷ [])
    ≡ codes "ok" ∷ codes "ok" ∷ codes "ok" ∷ codes "ok" ∷ codes "error\tSheetNotFound" ∷ codes "ok" ∷ codes "error\tOnlySheet" ∷ []
unfolding answers step caseless commands core_step
moved_back = refl

-- a sheet may be renamed to a name that agrees with its own; an invalid name is told first, then one that another sheet
-- has, then a sheet that isn't there
renamed : answers start
    (codes "add_sheet\tData" ∷ codes "rename_sheet_by_index\t1\tDATA" ∷ codes "rename_sheet_by_index\t9\ta/b" ∷ codes "rename_sheet_by_index\t9\tdata" ∷ codes "rename_sheet_by_index\t9\tx" ∷ [])
    ≡ codes "ok" ∷ codes "ok" ∷ codes "error\tInvalidSheetName" ∷ codes "error\tSheetExists" ∷ codes "error\tInvalidSheet" ∷ []
unfolding answers step caseless commands core_step
renamed = refl

-- a formula is refused for its sheet, its row, its column and its text, in this order; no formula is shown outside a sheet
refused_formulas : answers start
    (codes "update_cell_with_formula\t1\t0\t0\tx" ∷ codes "update_cell_with_formula\t0\t0\t0\tx" ∷ codes "update_cell_with_formula\t0\t1\t16385\tx" ∷ codes "update_cell_with_formula\t0\t1\t1\tx"
    ∷ codes "get_cell_formula\t1\t1\t1" ∷ codes "get_cell_formula\t0\t0\t-1" ∷ codes "get_cell_formula\t0\tx\t1" ∷ [])
    ≡ codes "error\tInvalidSheet" ∷ codes "error\tInvalidRow" ∷ codes "error\tInvalidColumn" ∷ codes "error\tNotAFormula"
    ∷ codes "error\tInvalidSheet" ∷ codes "ok" ∷ codes "error\tBadLine" ∷ []
unfolding answers step caseless commands core_step
refused_formulas = refl

-- where the last id is in use there is none for a new sheet
last_id_used : answers (record start { sheets = record { id = 4294967295; name = codes "Sheet1"; cells = [] } ∷ [] }) (codes "get_new_sheet_id" ∷ codes "add_sheet\tB" ∷ []) ≡ codes "ok\t-" ∷ codes "error\tIdsUsedUp" ∷ []
unfolding answers step caseless commands core_step
last_id_used = refl
