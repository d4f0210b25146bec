-- Definitions by example: what refuses them, ids in use, and one whose sheet is gone.
use Rattle.std.proofs.Common.{◌≡◌, [], ◌∷◌, codes, refl}
use Rattle.std.specs.Fmt.{digits}
use Rattle.caseless.proofs.Computing.{caseless}
use Rattle.ucd_derived.proofs.Computing.{ucd_derived}
use Rattle.ic_laws.specs.CoreStep.{core_step}
use Rattle.ic_tree.specs.Notations.{notations_of}
use Rattle.ic_machine.specs.Command.{commands}
use Rattle.ic_machine.specs.subjects.Definitions.{delete_definition_step, list_step, new_definition_step}
use Rattle.ic_machine.specs.subjects.Sheets.{add_sheet_step, delete_sheet_step, new_sheet_id_step, new_sheet_step}
use Rattle.ic_machine.proofs.examples.Session.{answers, step}
use Rattle.ic_machine.proofs.examples.Small.{start}

-- the refusals in their order
refused : answers start
    (codes "new_defined_name\tA23\t-\tSheet1!A1" ∷ codes "new_defined_name\ttot\t7\tSheet1!A1" ∷ codes "new_defined_name\ttot\t-\tSheet1!A1" ∷ codes "new_defined_name\tTOT\t-\tSheet1!A1" ∷ codes "delete_defined_name\tnope\t-" ∷ codes "delete_defined_name\ttot\t3" ∷ [])
    ≡ codes "error\tInvalidName" ∷ codes "error\tInvalidScope" ∷ codes "ok" ∷ codes "error\tNameExists" ∷ codes "error\tNameNotFound" ∷ codes "error\tInvalidSheet" ∷ []
unfolding answers step commands caseless ucd_derived notations_of core_step new_definition_step delete_definition_step
refused = refl

-- the id of a sheet that is gone is in use where a definition is local to it; that definition isn't listed
local : answers start
    (codes "add_sheet\tT" ∷ codes "new_defined_name\tloc\t1\tSheet1!$A$1" ∷ codes "delete_sheet\t1" ∷ codes "get_new_sheet_id" ∷ codes "new_sheet" ∷ codes "get_defined_name_list" ∷ [])
    ≡ codes "ok" ∷ codes "ok" ∷ codes "ok" ∷ codes "ok\t3" ∷ codes "ok\tSheet2\t1" ∷ codes "ok" ∷ []
unfolding answers step commands caseless ucd_derived notations_of core_step add_sheet_step delete_sheet_step new_sheet_id_step new_sheet_step new_definition_step list_step digits
local = refl
