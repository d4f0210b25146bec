-- Whether a sheet stands at an index.
use Rattle.std.proofs.Common.{◌≡◌, ◌≤◌, ℕ, zero, suc, List, [], ◌∷◌, true, false, Some, None, arith, ap, length, map, nat_lt, not}
use Rattle.std.proofs.lemmas.Bool.{le-ltb, lt-ltb}
use Rattle.std.proofs.lemmas.Option.{slice_get_within}
use Rattle.std.specs.List.{slice_get}
use Rattle.ic_sheets.specs.Sheet.{sheet_core, sheet_of}
use Rattle.ic_sheets.specs.declared.sheet.Sheet.{Sheet}
use Rattle.ic_parts.proofs.HeldLemmas.{seen_length}

past : (ws : List Sheet) (index : ℕ) → slice_get ws index ≡ None → length ws ≤ index
past [] index e = omega arith
past (s ∷ ws) zero e = cc
past (s ∷ ws) (suc index) e = let rest = past ws index e in omega (arith, rest)

pub none_lacks : (ws : List Sheet) (index : ℕ) → slice_get ws index ≡ None → not (nat_lt index (length (map sheet_core (map sheet_of ws)))) ≡ true
none_lacks ws index e = ap not (le-ltb index (length (map sheet_core (map sheet_of ws))) (let end = past ws index e in omega (arith, end, seen_length ws)))

pub some_stands : (ws : List Sheet) (index : ℕ) (s : Sheet) → slice_get ws index ≡ Some s → not (nat_lt index (length (map sheet_core (map sheet_of ws)))) ≡ false
some_stands ws index s e = ap not (lt-ltb index (length (map sheet_core (map sheet_of ws))) (let within = slice_get_within ws index s e in omega (arith, within, seen_length ws)))
