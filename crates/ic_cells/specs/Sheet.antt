-- What the state of a sheet shows as.
use Rattle.std.specs.Prelude.{ℕ, List, codes}
use Rattle.ic_cells.specs.declared.sheet.SheetState.{SheetState}
use Rattle.ic_cells.specs.declared.sheet.SheetState.TheVariants as states

abbrev pub state_word : SheetState → List ℕ
state_word states.Visible = codes "visible"
state_word states.Hidden = codes "hidden"
state_word states.VeryHidden = codes "veryHidden"
