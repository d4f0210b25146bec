-- What a turn of the reader's code says of a turn of the definition.
use Rattle.std.specs.Prelude.{◌≡◌, List, Option, Some, None}
use Rattle.ic_laws.specs.Token.{Token}
use Rattle.ic_laws.specs.Tree.{Spelled}
use Rattle.ic_laws.specs.Parse.{Read}
use Rattle.ic_tree.specs.declared.reader.Turn.{Turn}
use Rattle.ic_tree.specs.declared.reader.Turn.TheVariants as turns

-- the turn of a tree and the tokens it stands before, as the code answers it, with the tokens that are left
abbrev pub IsTurn : Option (Read Spelled) → Spelled → List Token → Turn → List Token → Type 0
IsTurn turn left ts (turns.Stays same) rest = (turn ≡ None) × (same ≡ left) × (rest ≡ ts)
IsTurn turn left ts turns.Fails rest = turn ≡ Some None
IsTurn turn left ts (turns.Takes next) rest = turn ≡ Some (Some (next, rest))

-- a turn that takes a tree, where there is one
abbrev pub turn_of : Option Spelled → Turn
turn_of None = turns.Fails
turn_of (Some t) = turns.Takes t
