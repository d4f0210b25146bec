-- What becomes of a formula in a cell where some of its references leave the sheet: each of these is lost, whatever the
-- others do.
use Rattle.std.specs.Prelude.{ℤ, if◌then◌else◌}
use Rattle.ic_laws.specs.Position.{is_inside}
use Rattle.ic_laws.specs.declared.tree.Error.TheVariants as errors
use Rattle.ic_laws.specs.declared.tree.LetPair.{LetPair, roll-LetPair}
use Rattle.ic_laws.specs.declared.tree.Tree.{Tree, Tree-F, fold-Tree, roll-Tree}
use Rattle.ic_laws.specs.declared.tree.Tree.TheOpen as one

-- a reference of which a corner lies outside the sheet, counted from the cell, is the error value REF, its sheet's name
-- with it; any other node is as it was
abbrev pub lost_kind : {S W A B : Type 0} → ℤ → ℤ → Tree-F S W A B → Tree-F S W A B
lost_kind row column (one.Reference sheet place) = if is_inside place row column then one.Reference sheet place else one.Err errors.REF
lost_kind row column kind = kind

-- so is each reference of a formula
abbrev pub with_lost : {S W : Type 0} → ℤ → ℤ → Tree S W → Tree S W
with_lost {S} {W} row column t =
    fold-Tree S W (Tree S W) (LetPair S W) (λ kind. roll-Tree S W (lost_kind row column kind))
    (λ pair. roll-LetPair S W (record { variable = pair.variable; value = pair.value })) t
