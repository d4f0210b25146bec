-- Sheets by example.
use Rattle.std.proofs.Common.{◌≡◌, [], ◌∷◌, codes, refl}
use Rattle.std.specs.Fmt.{digits}
use Rattle.caseless.proofs.Computing.{caseless}
use Rattle.ic_laws.specs.CoreStep.{core_step}
use Rattle.ic_machine.specs.Command.{commands}
use Rattle.ic_machine.specs.subjects.Sheets.{add_sheet_step, duplicate_sheet_step, insert_sheet_step, new_sheet_id_step, new_sheet_step}
use Rattle.ic_machine.proofs.examples.Session.{answers, step}
use Rattle.ic_machine.proofs.examples.Small.{start}

-- a sheet with an id that is asked for; after the last id there is none
inserted : answers start
    (codes "insert_sheet\tA\t0\t0" ∷ codes "insert_sheet\tA\t9\t-" ∷ codes "insert_sheet\tA\t9\t0" ∷ codes "insert_sheet\tA\t0\t4294967295" ∷ codes "add_sheet\tB" ∷ codes "get_new_sheet_id" ∷ [])
    ≡ codes "error\tIdLive" ∷ codes "error\tOutOfRange" ∷ codes "error\tOutOfRange" ∷ codes "ok" ∷ codes "error\tIdsUsedUp" ∷ codes "ok\t-" ∷ []
unfolding answers step commands caseless core_step add_sheet_step insert_sheet_step new_sheet_id_step
inserted = refl

-- the least number that makes a new name
numbered : answers start (codes "new_sheet" ∷ codes "new_sheet" ∷ codes "get_new_sheet_id" ∷ []) ≡ codes "ok\tSheet2\t1" ∷ codes "ok\tSheet3\t2" ∷ codes "ok\t4" ∷ []
unfolding answers step commands caseless core_step new_sheet_step new_sheet_id_step digits
numbered = refl

-- a copy stands after its source; its name is cut so that it has 31 characters
copied : answers start (codes "duplicate_sheet\t0" ∷ codes "duplicate_sheet\t0" ∷ codes "duplicate_sheet\t2" ∷ codes "duplicate_sheet\t9" ∷ [])
    ≡ codes "ok\tSheet1 (1)\t1" ∷ codes "ok\tSheet1 (2)\t1" ∷ codes "ok\tSheet1 (1) (1)\t3" ∷ codes "error\tInvalidSheet" ∷ []
unfolding answers step commands caseless duplicate_sheet_step digits
copied = refl

cut : answers start (codes "add_sheet\tAAAAAAAAAABBBBBBBBBBCCCCCCCCCCD" ∷ codes "duplicate_sheet\t1" ∷ []) ≡ codes "ok" ∷ codes "ok\tAAAAAAAAAABBBBBBBBBBCCCCCCC (1)\t2" ∷ []
unfolding answers step commands caseless core_step add_sheet_step duplicate_sheet_step digits
cut = refl
