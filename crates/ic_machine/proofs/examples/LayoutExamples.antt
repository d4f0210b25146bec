-- Widths of columns and what stays in sight, by example.
use Rattle.std.proofs.Common.{◌≡◌, pos, [], ◌∷◌, false, Some, None, Ok, Err, codes, refl}
use Rattle.std.specs.Fmt.{digits}
use Rattle.std.specs.FinMap as finite
use Rattle.ic_machine.specs.Book.{Grid, empty_grid, on_tab, style_number_at}
use Rattle.ic_machine.specs.Command.{commands}
use Rattle.ic_machine.specs.Refusal.{InvalidColumn}
use Rattle.ic_machine.specs.Reply.{number_field}
use Rattle.ic_machine.specs.subjects.Layout.{get_width_step, set_width_step}
use Rattle.ic_machine.specs.subjects.Tabs.{freeze_rows_step, frozen_rows_step}
use Rattle.ic_machine.proofs.examples.Session.{answers, step}
use Rattle.ic_machine.proofs.examples.Small.{start}

-- as many rows as a sheet has can't stay in sight
frozen : answers start
    (codes "set_frozen_rows\t0\t1048576" ∷ codes "set_frozen_rows\t0\t1048575" ∷ codes "set_frozen_rows\t0\t-1" ∷ codes "get_frozen_rows_count\t0" ∷ codes "set_frozen_rows\t1\t1" ∷ codes "set_frozen_rows\t0" ∷ [])
    ≡ codes "error\tTooManyRows" ∷ codes "ok" ∷ codes "error\tFrozenNegative" ∷ codes "ok\t1048575" ∷ codes "error\tInvalidSheet" ∷ codes "error\tBadLine" ∷ []
unfolding answers step commands on_tab freeze_rows_step frozen_rows_step digits
frozen = refl

-- a column has the width that it was given, and the others the one that all have
abbrev pub wide : Grid
wide = record empty_grid { columns = finite.insert finite.empty (pos 2) (record { width = Some 5000; hidden = false; style = None }) }

pub widened : set_width_step (pos 2) 5000 empty_grid ≡ Ok (wide, [])
unfolding set_width_step
widened = simp (finite.get-empty)

pub its_own : get_width_step (pos 2) wide ≡ Ok (wide, number_field 5000)
unfolding get_width_step
its_own = simp (finite.gets)

pub another : get_width_step (pos 3) wide ≡ Ok (wide, number_field 12500)
unfolding get_width_step
another = simp (finite.gets)

pub outside : set_width_step (pos 16385) 1 wide ≡ Err InvalidColumn
unfolding set_width_step
outside = refl

-- a place without a cell takes its row's style before its column's
abbrev styled : Grid
styled = record empty_grid {
  rows = finite.insert finite.empty (pos 4) (record { height = None; hidden = false; style = Some 1 });
  columns = finite.insert finite.empty (pos 1) (record { width = None; hidden = false; style = Some 2 });
}

by_row : style_number_at styled (pos 4) (pos 1) ≡ 1
by_row = simp (finite.gets)

by_column : style_number_at styled (pos 5) (pos 1) ≡ 2
by_column = simp (finite.gets)
